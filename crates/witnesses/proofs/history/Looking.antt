-- The disk of an unfit port is taken out, and a service finds so. This is the way of the device.
use Rattle.std.proofs.Common.{ℕ, ◌≡◌, ◌++◌, ◌==◌, Bool, true, false, List, [], ◌∷◌, inl, ⊎_elim, refl, sym, ◌∙◌, ap, subst, arith, if◌then◌else◌}
use Rattle.std.specs.Prelude.{nat_eq}
use Rattle.std.proofs.lemmas.Bool.{cases_eq, false≢true, ne_eqb, true≢false}
use Rattle.std.proofs.lemmas.Nat.Bits.{bit_at-pow_other}
use Rattle.hba_regs.specs.Bits.{bit}
use Rattle.hba_regs.specs.declared.reg.Reg.TheVariants.{Px}
use Rattle.hba_regs.specs.declared.reg.PortReg.{PortReg}
use Rattle.hba_regs.specs.declared.reg.PortReg.TheVariants.{Is, Cmd, Ssts, Serr}
use Rattle.adapter.specs.Access.{DoesAll, PortShows, Reads, Writes, notes_after_reading, port_after_write, shown_interrupt}
use Rattle.adapter.specs.Device.{DevicePort, Device}
use Rattle.adapter.specs.Rules.{MayWriteCmd}
use Rattle.adapter.specs.Steps.{Can, device_after}
use Rattle.adapter.specs.Steps.DeviceTransition.{Unplug}
use Rattle.adapter.specs.declared.tape.Entry.{Entry}
use Rattle.adapter.specs.declared.tape.Entry.TheVariants as entry
use Rattle.refinement.specs.Relation.{port_at}
use Rattle.witnesses.specs.AllowedAccesses.{AreAllowed}
use Rattle.witnesses.specs.RunningAdapter.{running_device}
use Rattle.witnesses.specs.MissingDisk.{unfit_look_accesses, missing_disk_turn}
use Rattle.witnesses.proofs.history.Booting.{rebooted, unfit}
use Rattle.witnesses.proofs.history.Command.{read_memory}
use Rattle.witnesses.proofs.history.Devices.{but_first, but_second, no_bit, put_device, reads, writes}
use Rattle.witnesses.proofs.history.Submitting.{pages}

abbrev pub gained : List Entry
gained = entry.Unplug (port_at 0) ∷ []

abbrev pub tape_gone : List Entry
tape_gone = pages ++ gained

abbrev pub dev : DevicePort → DevicePort → Device
dev p q = running_device tape_gone read_memory (p ∷ q ∷ [])

-- ---- the disk is taken out

abbrev pub gone : DevicePort
gone = record (unfit 0) { ssts_det = 0; present = false; fresh = false; serr_n = true }

abbrev pub unplugged : Device
unplugged = dev gone (unfit 1)

pub can_go : Can (Unplug 0) rebooted
can_go = refl

pub goes : unplugged ≡ device_after (Unplug 0) rebooted
goes = put_device tape_gone read_memory 0 (unfit 0 ∷ unfit 1 ∷ []) (gone ∷ unfit 1 ∷ []) gone refl (but_first (unfit 0) gone (unfit 1 ∷ []))

-- ---- the service

abbrev told : DevicePort
told = record gone { notes = notes_after_reading Is 0x400000 gone }

abbrev looked : DevicePort
looked = record told { notes = notes_after_reading Ssts 0 told }

abbrev commanded : DevicePort
commanded = record looked { notes = notes_after_reading Cmd 0x4010 looked }

abbrev stopping : DevicePort
stopping = port_after_write Cmd 0x4010 3 commanded

abbrev stopped : DevicePort
stopped = record stopping { notes = notes_after_reading Cmd 0x4010 stopping }

abbrev cleared : DevicePort
cleared = port_after_write Serr 0xffffffff 3 stopped

abbrev pub absent : DevicePort
absent = record cleared { notes = notes_after_reading Ssts 0 cleared }

-- the other one is looked at
abbrev quiet : DevicePort
quiet = record (unfit 1) { notes = notes_after_reading Is 0 (unfit 1) }

abbrev pub passed : DevicePort
passed = record quiet { notes = notes_after_reading Ssts 3 quiet }

abbrev pub looked_over : Device
looked_over = dev absent passed

unfoldable pub reads_here : (r : PortReg) (v : ℕ) (p : DevicePort) → PortShows r v p → Reads (Px (port_at 0) r) v (dev p (unfit 1)) (dev (record p { notes = notes_after_reading r v p }) (unfit 1))
reads_here r v p shows = reads tape_gone read_memory 0 (p ∷ unfit 1 ∷ []) (record p { notes = notes_after_reading r v p } ∷ unfit 1 ∷ []) (but_first p (record p { notes = notes_after_reading r v p }) (unfit 1 ∷ [])) r v shows refl

unfoldable pub writes_here : (r : PortReg) (v : ℕ) (p : DevicePort) → Writes (Px (port_at 0) r) v (dev p (unfit 1)) (dev (port_after_write r v 3 p) (unfit 1))
writes_here r v p = writes tape_gone read_memory 0 (p ∷ unfit 1 ∷ []) (port_after_write r v 3 p ∷ unfit 1 ∷ []) (but_first p (port_after_write r v 3 p) (unfit 1 ∷ [])) r v refl

unfoldable pub reads_there : (r : PortReg) (v : ℕ) (q : DevicePort) → PortShows r v q → Reads (Px (port_at 1) r) v (dev absent q) (dev absent (record q { notes = notes_after_reading r v q }))
reads_there r v q shows = reads tape_gone read_memory 1 (absent ∷ q ∷ []) (absent ∷ record q { notes = notes_after_reading r v q } ∷ []) (but_second absent q (record q { notes = notes_after_reading r v q }) []) r v shows refl

-- PxIS shows PRCS alone
pub prcs_shown : (place : ℕ) → bit 0x400000 place ≡ shown_interrupt gone place
prcs_shown place = ⊎_elim
    (λ (e : place ≡ 22). subst (λ (k : ℕ). bit 0x400000 k ≡ shown_interrupt gone k) (sym e) refl)
    (λ (ne : place ≡ 22 → ⊥). ap (λ (n : ℕ). n == 1) (bit_at-pow_other 22 place ne) ∙ sym (by (nat_eq place 6) (nat_eq place 22) (ne_eqb place 22 ne)))
    (cases_eq place 22)
  where
    by : (b c : Bool) → c ≡ false → (if b then gone.serr_x else (if c then gone.serr_n else gone.is place)) ≡ false
    by true c ne = refl
    by false true ne = ne
    by false false ne = refl

-- and that of the other port shows nothing
pub none_shown : (place : ℕ) → bit 0 place ≡ shown_interrupt (unfit 1) place
none_shown place = no_bit place ∙ sym (by (nat_eq place 6) (nat_eq place 22))
  where
    by : (b c : Bool) → (if b then (unfit 1).serr_x else (if c then (unfit 1).serr_n else (unfit 1).is place)) ≡ false
    by true c = refl
    by false true = refl
    by false false = refl

unfoldable pub does : DoesAll (missing_disk_turn ++ unfit_look_accesses) unplugged looked_over
does = (
  dev told (unfit 1),
  reads_here Is 0x400000 gone (λ place cause. prcs_shown place),
  (
    dev looked (unfit 1),
    reads_here Ssts 0 told refl,
    (
      dev commanded (unfit 1),
      reads_here Cmd 0x4010 looked (refl, refl, refl, refl),
      (
        dev stopping (unfit 1),
        writes_here Cmd 0x4010 commanded,
        (
          dev stopped (unfit 1),
          reads_here Cmd 0x4010 stopping (refl, refl, refl, refl),
          (
            dev cleared (unfit 1),
            writes_here Serr 0xffffffff stopped,
            (
              dev absent (unfit 1),
              reads_here Ssts 0 cleared refl,
              (
                dev absent quiet,
                reads_there Is 0 (unfit 1) (λ place cause. none_shown place),
                (looked_over, reads_there Ssts 3 quiet refl, refl),
              ),
            ),
          ),
        ),
      ),
    ),
  ),
)

-- ---- by the rules

may_command : MayWriteCmd commanded 0x4010
may_command = record {
  start = λ set. absurd (false≢true set);
  receive = λ set. inl refl;
  stop_receiving = λ clear. absurd (true≢false clear);
  other_bits_are_kept = λ place low start receive. refl;
}

pub allowed : AreAllowed (missing_disk_turn ++ unfit_look_accesses) unplugged looked_over does
unfolding does reads_here writes_here reads_there reads writes
allowed = (
  (record { ae_is_set = refl; no_reset = refl }, (omega arith, refl)),
  (
    (record { ae_is_set = refl; no_reset = refl }, (omega arith, refl)),
    (
      (record { ae_is_set = refl; no_reset = refl }, (omega arith, refl)),
      (
        (record { ae_is_set = refl; no_reset = refl }, (omega arith, refl), may_command),
        (
          (record { ae_is_set = refl; no_reset = refl }, (omega arith, refl)),
          (
            (record { ae_is_set = refl; no_reset = refl }, (omega arith, refl), tt),
            (
              (record { ae_is_set = refl; no_reset = refl }, (omega arith, refl)),
              (
                (record { ae_is_set = refl; no_reset = refl }, (omega arith, refl)),
                ((record { ae_is_set = refl; no_reset = refl }, (omega arith, refl)), tt),
              ),
            ),
          ),
        ),
      ),
    ),
  ),
)
