-- The adapter is reset, and GHC is read until the reset is done.
use Rattle.ata_types.specs.declared.limits.TheConstants.{MOST_READINGS}
use Rattle.std.proofs.Common.{ℕ, Bool, true, false, ◌≡◌, ◌+◌, ◌<◌, ◌≤◌, ◌++◌, List, [], ◌∷◌, refl, ◌∙◌, ap, arith}
use Rattle.std.specs.Prelude.{All, length}
use Rattle.std.proofs.lemmas.List.{length-append}
use Rattle.std.proofs.lemmas.List.Elements.{All-append, All-cons, All-nil}
use Rattle.hba_regs.specs.Bits.{bit}
use Rattle.hba_regs.specs.declared.reg.Reg.TheVariants.{Ghc}
use Rattle.adapter.specs.Access.{Access, Reads, Writes}
use Rattle.adapter.specs.Access.Access.{Reading, Writing}
use Rattle.adapter.specs.Device.{Device}
use Rattle.refinement.specs.Fragments.{AnySlotStates, IsSimulatedAlong}
use Rattle.refinement.specs.PreservedParts.{SameAdapter}
use Rattle.host_boot.specs.Resets.{ReadsHrSet, SetsHrAndPollsWhileSet, IsResetAccess, Resets, ResetStaysPending}
use Rattle.host_boot.specs.Laws.{Laws}
use Rattle.host_boot.specs.Laws.AccessPurpose.{Resetting}
use Rattle.host_boot.proofs.Stretching.{told_both, told_more}

-- HR was set, and GHC alone was read so many times, at last with HR still one
pub record AsksAgain (n : ℕ) (accesses : List Access) : Type 0 where
  pub asked : List Access
  pub here : accesses ≡ Writing Ghc 0x80000001 ∷ asked
  pub only : All ReadsHrSet asked
  pub long : length asked ≡ n
  pub last : 0 < n → SetsHrAndPollsWhileSet true accesses

-- the reset is pending after so many readings
pub record IsResetting (start : Device) (n : ℕ) (d : Device) : Type 0 where
  pub told : IsSimulatedAlong (AsksAgain n) IsResetAccess AnySlotStates start d
  pub pending : d.hr ≡ true
  pub same : SameAdapter start d

asks_none : (accesses : List Access) → accesses ≡ Writing Ghc 0x80000001 ∷ [] → AsksAgain 0 accesses
asks_none accesses is = record { asked = []; here = is; only = All-nil ReadsHrSet; long = refl; last = λ none. absurd (omega (arith, none)) }

-- one more reading
module _ (n v : ℕ) (early late : List Access) (a : AsksAgain n early) (is : late ≡ Reading Ghc v ∷ []) where
  joined : early ++ late ≡ Writing Ghc 0x80000001 ∷ (a.asked ++ Reading Ghc v ∷ [])
  joined = ap (λ (l : List Access). l ++ late) a.here ∙ ap (λ (l : List Access). Writing Ghc 0x80000001 ∷ (a.asked ++ l)) is

  asks_shown : (hr : Bool) → bit v 0 ≡ hr → SetsHrAndPollsWhileSet hr (early ++ late)
  asks_shown hr shows = record { polls = a.asked; last_ghc = v; accesses_are = joined; polls_show_hr = a.only; hr_is = shows }

  asked_few : n < MOST_READINGS → length (early ++ late) ≤ MOST_READINGS + 1
  asked_few few =
      let here = ap length joined in let long = a.long in let more = length-append a.asked (Reading Ghc v ∷ []) in
      omega (arith, few, here, long, more)

  asks_more : bit v 0 ≡ true → AsksAgain (n + 1) (early ++ late)
  asks_more shows = record {
    asked = a.asked ++ Reading Ghc v ∷ [];
    here = joined;
    only = All-append ReadsHrSet a.asked (Reading Ghc v ∷ []) a.only (All-cons ReadsHrSet (Reading Ghc v) [] shows (All-nil ReadsHrSet));
    long = length-append a.asked (Reading Ghc v ∷ []) ∙ ap (λ (k : ℕ). k + 1) a.long;
    last = λ some. asks_shown true shows;
  }

module _ (laws : Laws) (start : Device) where
  -- HR is set
  pub resetting_begins : (d : Device) → Writes Ghc 0x80000001 start d → IsResetting start 0 d
  resetting_begins d call = record {
    told = told_more (λ accesses. accesses ≡ Writing Ghc 0x80000001 ∷ []) (AsksAgain 0) IsResetAccess AnySlotStates (λ uses. uses) start d asks_none
        (laws.fragments.writes Resetting Ghc 0x80000001 start d refl (λ mid steps. tt) (λ uses is. tt) call);
    pending = laws.ghc_write_sets_hr 0x80000001 start d refl call;
    same = laws.access_keeps_adapter (Writing Ghc 0x80000001) start d call;
  }

  module _ (n v : ℕ) (d e : Device) (w : IsResetting start n d) (call : Reads Ghc v d e) where
    same : SameAdapter start e
    same = laws.same_adapter_is_transitive start d e w.same (laws.access_keeps_adapter (Reading Ghc v) d e call)

    -- what is told with one more reading
    with_reading : (Tells : List Access → Type 0) → ((early late : List Access) → AsksAgain n early → late ≡ Reading Ghc v ∷ [] → Tells (early ++ late)) → IsSimulatedAlong Tells IsResetAccess AnySlotStates start e
    with_reading Tells join =
        told_both laws (AsksAgain n) (λ accesses. accesses ≡ Reading Ghc v ∷ []) Tells join Resetting Resetting (λ uses. uses) (λ uses. uses) (λ access may. may) (λ uses any. tt) start d e w.told
        (laws.fragments.reads Resetting Ghc v d e tt call)

    pub resetting_goes_on : bit v 0 ≡ true → IsResetting start (n + 1) e
    resetting_goes_on shows = record {
      told = with_reading (AsksAgain (n + 1)) (λ early late a is. asks_more n v early late a is shows);
      pending = (laws.ghc_reading_tells_hr_and_ae v d e call).0 ∙ shows;
      same = same;
    }

    pub resetting_ends : n < MOST_READINGS → bit v 0 ≡ false → Resets start e
    resetting_ends few clear =
        let told = with_reading (λ accesses. SetsHrAndPollsWhileSet false accesses × (length accesses ≤ 65))
        (λ early late a is. (asks_shown n v early late a is false clear, asked_few n v early late a is few)) in
        record { followed = told.is_simulated; awaited = told.accesses_are_such.0; count_is_allowed = told.accesses_are_such.1; idle = laws.ended_reset_is_idle v d e w.pending call clear; adapter_is_kept = same }

  -- it was read 64 times
  pub resetting_sticks : (n : ℕ) (d : Device) → n ≡ MOST_READINGS → IsResetting start n d → ResetStaysPending start d
  resetting_sticks n d all w = record {
    followed = w.told.is_simulated;
    awaited = w.told.accesses_are_such.last (omega (arith, all));
    count_is = let here = ap length w.told.accesses_are_such.here in let long = w.told.accesses_are_such.long in omega (arith, here, long, all);
    hr_is_set = w.pending;
    adapter_is_kept = w.same;
  }
