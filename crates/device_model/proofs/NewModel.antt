-- A new model is idle and sane.
use Rattle.std.proofs.Common.{ℕ, true, false, zero, suc, ◌≡◌, ◌<◌, ◌≤◌, List, [], ◌∷◌, Option, None, Some, replicate, refl, ap, ◌∙◌, slice_index, subst, arith, ◌&&◌, slice_index_or}
use Rattle.std.specs.Prelude.{is_some}
use Rattle.std.proofs.lemmas.Nat.Bits.{bit_at-zero}
use Rattle.hba_regs.specs.Bits.{bit}
use Rattle.adapter.specs.Device.{HasValidSectors}
use Rattle.adapter.specs.Idle.{IsIdlePort}
use Rattle.device_model.specs.Disks.{disks_given_for}
use Rattle.device_model.specs.ModelState.{IsNewMedia, HasFirstGivenDiskOrNone, HasInitialValues, all_bay_stores_are_known, media_of}
use Rattle.device_model.specs.declared.disks.Disks.{Disks}
use Rattle.device_model.specs.declared.disks.PortDisks.{PortDisks}
use Rattle.sector_store.specs.Stores.{AreSectors}
use Rattle.device_model.specs.PortView.{Media, port_of, reset_port_without_disk}
use Rattle.device_model.specs.declared.bay.Bay.{Bay}
use Rattle.device_model.specs.declared.port.PortModel.{PortModel}

pub zero_bit : (k : ℕ) → bit 0 k ≡ false
zero_bit k = rw bit_at-zero refl

zero_at : (n k : ℕ) → slice_index (replicate n 0) k ≡ 0
zero_at zero k = refl
zero_at (suc n) zero = refl
zero_at (suc n) (suc k) = zero_at n k

pub all_zero : (xs : List ℕ) (n : ℕ) → xs ≡ replicate n 0 → (k : ℕ) → slice_index xs k ≡ 0
all_zero xs n e k = ap (λ (l : List ℕ). slice_index l k) e ∙ zero_at n k

pub zeros_small : (xs : List ℕ) (n : ℕ) → xs ≡ replicate n 0 → (k : ℕ) → slice_index xs k < 256
zeros_small xs n e k = let z = all_zero xs n e k in omega (arith, z)

abbrev pub IsIdleModel : PortModel → Type 0
IsIdleModel p = (m : Media) → IsIdlePort (port_of p m)

abbrev pub IsResetModel : PortModel → Type 0
IsResetModel p = (m : Media) → HasInitialValues (port_of p m)

pub blank_idle : IsIdleModel reset_port_without_disk
blank_idle = λ m. record {
  st_is_clear = refl;
  cr_is_clear = refl;
  fre_is_clear = refl;
  fr_is_clear = refl;
  ci_is_clear = zero_bit;
  sact_is_clear = zero_bit;
  none_is_taken = λ slot. refl;
}

-- what holds of four ports, each at its place, holds at each place, if past them it holds of a blank one
pub ports_are : (P : ℕ → PortModel → Type 0) (a b c d : PortModel) → P 0 a → P 1 b → P 2 c → P 3 d → (k : ℕ) → (4 ≤ k → P k reset_port_without_disk) →
    P k (slice_index_or (a ∷ b ∷ c ∷ d ∷ []) k reset_port_without_disk)
ports_are P a b c d pa pb pc pd zero past = pa
ports_are P a b c d pa pb pc pd (suc zero) past = pb
ports_are P a b c d pa pb pc pd (suc (suc zero)) past = pc
ports_are P a b c d pa pb pc pd (suc (suc (suc zero))) past = pd
ports_are P a b c d pa pb pc pd (suc (suc (suc (suc k)))) past = past (omega arith)

-- what is behind a port is a disk, whatever disks the port has
pub disks_are : {S : Type 0} (size : S → ℕ) (told : S → Option (ℕ → List ℕ)) → ((s : S) → AreSectors (size s) (told s)) → (bay : Option (Bay S)) →
    HasValidSectors (media_of size told bay).disk
disks_are size told are None = λ f e k lt. absurd (omega (arith, lt))
disks_are size told are (Some b) = λ f e. subst (λ (t : Option (ℕ → List ℕ)). AreSectors (size b.disk.store) t) e (are b.disk.store)

pub both_tell : (told other : Option (ℕ → List ℕ)) → is_some told ≡ true → is_some other ≡ true → is_some told && is_some other ≡ true
both_tell None other here there = here
both_tell (Some f) other here there = there

-- where all stores tell, all disks do
pub all_told : {S : Type 0} (told : S → Option (ℕ → List ℕ)) → ((s : S) → is_some (told s) ≡ true) → (bays : List (Option (Bay S))) → all_bay_stores_are_known told bays ≡ true
all_told told all [] = refl
all_told told all (None ∷ bays) = all_told told all bays
all_told told all (Some b ∷ bays) =
    ap (λ x. x && all_bay_stores_are_known told bays) (both_tell (told b.disk.store) (told b.other.store) (all b.disk.store) (all b.other.store)) ∙ all_told told all bays

-- a new port has in it what is given for it
pub new_port : {S : Type 0} (size : S → ℕ) (told : S → Option (ℕ → List ℕ)) (given : Option (PortDisks S)) (p : PortModel) (m : Media) → p.present ≡ is_some given → p.lasting_tape_length ≡ 0 →
    IsNewMedia size told given m → HasFirstGivenDiskOrNone size told given (port_of p m)
new_port size told None p m present since is = (present, ap (λ (x : Media). x.plug_history) is)
new_port size told (Some disks) p m present since is = (present, is.0, is.1, λ i. record { sectors = is.2 i; tape_length = since i })

-- for a port past the last one none is given
pub past_given : {S : Type 0} (d : Disks S) (k : ℕ) → 4 ≤ k → disks_given_for d k ≡ None
past_given d zero past = absurd (omega (arith, past))
past_given d (suc zero) past = absurd (omega (arith, past))
past_given d (suc (suc zero)) past = absurd (omega (arith, past))
past_given d (suc (suc (suc zero))) past = absurd (omega (arith, past))
past_given d (suc (suc (suc (suc k)))) past = refl
