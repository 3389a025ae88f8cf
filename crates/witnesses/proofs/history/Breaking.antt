-- A fatal error breaks the port of the read, and a service finds it, and restarts the port. This is the way of the device.
use Rattle.std.proofs.Common.{ℕ, zero, suc, ◌≡◌, ◌++◌, ◌==◌, Bool, true, false, List, [], ◌∷◌, inl, ⊎_elim, refl, sym, ◌∙◌, ap, subst, arith, if◌then◌else◌}
use Rattle.std.specs.Prelude.{nat_eq}
use Rattle.std.proofs.lemmas.Bool.{cases_eq, cond-false, ne_eqb, true≢false}
use Rattle.std.proofs.lemmas.Nat.Bits.{bit_at-pow_other}
use Rattle.hba_regs.specs.Bits.{bit}
use Rattle.hba_regs.specs.declared.reg.Reg.TheVariants.{Px}
use Rattle.hba_regs.specs.declared.reg.Reg.TheVariants as registers
use Rattle.hba_regs.specs.declared.reg.PortReg.TheVariants.{Is, Ssts}
use Rattle.adapter.specs.Access.{DoesAll, Reads, Writes, notes_after_reading, port_after_write, shown_interrupt, port_after_hba_is_write}
use Rattle.adapter.specs.Device.{DevicePort, Device}
use Rattle.adapter.specs.Memory.{changed}
use Rattle.adapter.specs.Rules.{PxIsWasWrittenOfClearedPorts}
use Rattle.adapter.specs.Steps.{Can, device_after}
use Rattle.adapter.specs.Steps.DeviceTransition.{Fatal}
use Rattle.adapter.specs.declared.tape.Entry.{Entry}
use Rattle.adapter.specs.declared.tape.Entry.TheVariants as entry
use Rattle.refinement.specs.Relation.{port_at}
use Rattle.witnesses.specs.AllowedAccesses.{AreAllowed}
use Rattle.witnesses.specs.FatalError.{fatal_accesses}
use Rattle.witnesses.specs.RunningAdapter.{running_device, port_or_empty}
use Rattle.witnesses.proofs.history.Command.{read_memory}
use Rattle.witnesses.proofs.history.Devices.{but_first, other_bit, put_device, reads, writes}
use Rattle.witnesses.proofs.history.Restarting.{Outset, reads_here, restart_allowed, restarts, unfit, writes_here}
use Rattle.witnesses.proofs.history.Submitting.{issued, pages, second, submitted}

-- ---- the way

abbrev pub tape_broken : List Entry
tape_broken = pages ++ entry.Fatal (port_at 0) ∷ []

abbrev pub dev : DevicePort → Device
dev p = running_device tape_broken read_memory (p ∷ second ∷ [])

abbrev pub broken : DevicePort
broken = record issued { is = changed issued.is 27 true; broken = true }

abbrev cleared : DevicePort
cleared = port_after_write Is 0x08000000 3 broken

abbrev acknowledged : DevicePort
acknowledged = port_after_hba_is_write cleared

abbrev linked : DevicePort
linked = record acknowledged { notes = notes_after_reading Ssts 3 acknowledged }

-- the masks are read then
abbrev pub outset : Outset
outset = record { new_entries = entry.Fatal (port_at 0) ∷ []; still = refl; flags = linked.is; broken = true; notes = linked.notes }

-- the fatal error comes
pub can_break : Can (Fatal 0 27) submitted
can_break = (refl, inl refl)

pub breaks : dev broken ≡ device_after (Fatal 0 27) submitted
breaks = put_device tape_broken read_memory 0 (issued ∷ second ∷ []) (broken ∷ second ∷ []) broken refl (but_first issued broken (second ∷ []))

-- PxIS shows IFS alone
ifs_shown : (place : ℕ) → bit 0x08000000 place ≡ shown_interrupt broken place
unfolding changed
ifs_shown place = ⊎_elim
    (λ (e : place ≡ 27). subst (λ (k : ℕ). bit 0x08000000 k ≡ shown_interrupt broken k) (sym e) refl)
    (λ (ne : place ≡ 27 → ⊥). ap (λ (n : ℕ). n == 1) (bit_at-pow_other 27 place ne) ∙ sym (by (nat_eq place 6) (nat_eq place 22) ne))
    (cases_eq place 27)
  where
    by : (b c : Bool) → (place ≡ 27 → ⊥) → (if b then broken.serr_x else (if c then broken.serr_n else broken.is place)) ≡ false
    by true c ne = refl
    by false true ne = refl
    by false false ne = cond-false (place == 27) true false (ne_eqb place 27 ne)

tells : Reads (Px (port_at 0) Is) 0x08000000 (dev broken) (dev broken)
tells = reads_here tape_broken Is 0x08000000 broken (λ place cause. ifs_shown place)

-- the port's bit of IS is cleared
acknowledges : Writes registers.Is 1 (dev cleared) (dev acknowledged)
acknowledges = record { at_access = dev cleared; steps = record { steps = []; lead = refl }; effect = ap (λ (f : ℕ → DevicePort). record (dev cleared) { port = f }) (λ i n. each n i) }
  where
    each : (n : ℕ) → port_or_empty (acknowledged ∷ second ∷ []) n ≡ (if bit 1 n then port_after_hba_is_write (port_or_empty (cleared ∷ second ∷ []) n) else port_or_empty (cleared ∷ second ∷ []) n)
    each zero = refl
    each (suc n) = sym (cond-false (bit 1 (suc n)) (port_after_hba_is_write (port_or_empty (cleared ∷ second ∷ []) (suc n))) (port_or_empty (cleared ∷ second ∷ []) (suc n)) (other_bit (suc n) (omega arith)))

pub does : DoesAll fatal_accesses (dev broken) (dev (unfit outset))
does = (dev broken, tells, (dev cleared, writes_here tape_broken Is 0x08000000 broken, (dev acknowledged, acknowledges, (dev linked, reads_here tape_broken Ssts 3 acknowledged refl, restarts outset))))

-- ---- by the rules

may_acknowledge : PxIsWasWrittenOfClearedPorts (dev cleared) 1
may_acknowledge zero low set = refl
may_acknowledge (suc n) low set = absurd (true≢false (sym set ∙ other_bit (suc n) (omega arith)))

pub allowed : AreAllowed fatal_accesses (dev broken) (dev (unfit outset)) does
unfolding does tells acknowledges reads_here writes_here reads writes
allowed = ((record { ae_is_set = refl; no_reset = refl }, (omega arith, refl)), ((record { ae_is_set = refl; no_reset = refl }, (omega arith, refl), tt), ((record { ae_is_set = refl; no_reset = refl }, may_acknowledge), ((record { ae_is_set = refl; no_reset = refl }, (omega arith, refl)), restart_allowed outset))))
