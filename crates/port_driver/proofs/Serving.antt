-- The adapter has a ready port; what a look at it tells; and a mask has the slots that it uses.
use Rattle.std.proofs.Common.{ℕ, true, false, ◌≡◌, ◌≢◌, ◌<◌, ◌==◌, ◌↔◌, Option, Some, None, refl, sym, ap, ◌∙◌, subst, arith, eq-eqb}
use Rattle.std.specs.Int.{bit_at}
use Rattle.std.specs.Prelude.{IsSome}
use Rattle.std.proofs.lemmas.Bool.{eqb-false, false≢true, ne_eqb}
use Rattle.std.proofs.lemmas.Nat.Bits.{bit_at-lt, bit_at-zero, same_from_bits_below}
use Rattle.std.proofs.lemmas.Option.{same_Some}
use Rattle.ata_types.specs.declared.Port.{Port}
use Rattle.hba_regs.specs.Bits.{bit}
use Rattle.adapter.specs.Device.{Device}
use Rattle.port_control.specs.PortEvents.{TakesEvent}
use Rattle.port_control.specs.declared.events.PortEvent.{PortEvent}
use Rattle.port_control.specs.declared.events.PortEvent.TheVariants as look
use Rattle.server_history.specs.ErrorHandling.{LookTellsErrorUnlessTimedOut}
use Rattle.server_history.specs.IssuingAndAnswering.{IsEmptyMask, IsMaskOf, is_used}
use Rattle.port_control.specs.declared.events.PortError.{PortError}
use Rattle.port_control.specs.declared.events.PortError.TheVariants.{FatalError, TaskFileError, TimedOut, LinkChanged}
use Rattle.slots.specs.SlotUses.{PortSlots, IsTaken, use_at}
use Rattle.slots.specs.declared.SlotUse.{SlotUse}
use Rattle.port_driver.specs.Recovery.{error_of}

-- what a look tells is found out by it, and isn't that a request is hung
pub found_out : (told : PortEvent) (port_error : PortError) (port : Port) (old seen : Device) → error_of told ≡ Some port_error → TakesEvent port told old seen
    → LookTellsErrorUnlessTimedOut port port_error old seen × (port_error ≢ TimedOut)
found_out look.TaskFileError port_error port old seen is looks =
    subst (λ (its : PortError). LookTellsErrorUnlessTimedOut port its old seen × (its ≢ TimedOut)) (same_Some TaskFileError port_error is) (looks, λ hung. let z : TaskFileError ≡ TimedOut = hung in cc)
found_out look.FatalError port_error port old seen is looks =
    subst (λ (its : PortError). LookTellsErrorUnlessTimedOut port its old seen × (its ≢ TimedOut)) (same_Some FatalError port_error is) (looks, λ hung. let z : FatalError ≡ TimedOut = hung in cc)
found_out look.LinkChanged port_error port old seen is looks =
    subst (λ (its : PortError). LookTellsErrorUnlessTimedOut port its old seen × (its ≢ TimedOut)) (same_Some LinkChanged port_error is) (looks, λ hung. let z : LinkChanged ≡ TimedOut = hung in cc)
found_out look.NoEvent port_error port old seen is looks = let z : None ≡ Some port_error = is in absurd cc

-- a look that tells no trouble tells that there is none
pub undisturbed : (told : PortEvent) (result : Option PortError) (port : Port) (old seen : Device) → result ≡ error_of told → ((port_error : PortError) → result ≡ Some port_error → ⊥)
    → TakesEvent port told old seen → TakesEvent port look.NoEvent old seen
undisturbed look.TaskFileError result port old seen is none looks = absurd (none TaskFileError is)
undisturbed look.FatalError result port old seen is none looks = absurd (none FatalError is)
undisturbed look.LinkChanged result port old seen is none looks = absurd (none LinkChanged is)
undisturbed look.NoEvent result port old seen is none looks = looks

-- a mask that has the taken slots
pub mask_of : (slots : PortSlots) (mask : ℕ) → ((slot : ℕ) → slot < 32 → (bit_at mask slot ≡ 1) ↔ IsTaken slots slot) → IsMaskOf slots mask
mask_of slots mask exact slot small = by (use_at slots slot) refl
  where
    by : (used : Option SlotUse) → use_at slots slot ≡ used → bit mask slot ≡ is_used (use_at slots slot)
    by None is = ne_eqb (bit_at mask slot) 1 (λ one. let z : IsTaken slots slot = (exact slot small).0 one in false≢true (sym (ap is_used is) ∙ taken_used slots slot z)) ∙ sym (ap is_used is)
      where
        taken_used : (slots : PortSlots) (slot : ℕ) → IsTaken slots slot → is_used (use_at slots slot) ≡ true
        taken_used slots slot taken = go (use_at slots slot) taken
          where
            go : (used : Option SlotUse) → IsSome used → is_used used ≡ true
            go None taken = taken
            go (Some u) taken = refl
    by (Some u) is = eq-eqb (bit_at mask slot) 1 ((exact slot small).1 (subst IsSome (sym is) refl)) ∙ sym (ap is_used is)

-- 0 has no bit
pub none_of_zero : (mask : ℕ) → mask ≡ 0 → IsEmptyMask mask
none_of_zero mask zero slot small = ap (λ (n : ℕ). bit n slot) zero ∙ ap (λ (n : ℕ). n == 1) (bit_at-zero slot)

-- and a mask without one is 0
pub zero_of_none : (mask : ℕ) → mask < 4294967296 → IsEmptyMask mask → mask ≡ 0
zero_of_none mask fits none = same_from_bits_below 32 mask 0 fits (omega arith)
    (λ slot small. clear slot (none slot small) ∙ sym (bit_at-zero slot))
  where
    clear : (slot : ℕ) → bit mask slot ≡ false → bit_at mask slot ≡ 0
    clear slot none = let low = bit_at-lt mask slot in let not_one = eqb-false (bit_at mask slot) 1 none in omega (arith, low, not_one)
