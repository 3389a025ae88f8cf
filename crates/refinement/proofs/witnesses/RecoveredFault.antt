-- The first read fails, and its port runs well again.
use Rattle.std.proofs.Common.{ℕ, ◌≡◌, ◌≢◌, ◌==◌, ◌&&◌, not, Bool, true, false, [], ◌∷◌, refl, sym, ◌∙◌, ap, subst, arith, inl, inr, ⊎_elim, if◌then◌else◌}
use Rattle.std.specs.Int.{bit_at}
use Rattle.std.specs.Prelude.{nat_eq, max}
use Rattle.std.proofs.lemmas.Bool.{cases_eq, false≢true, true≢false}
use Rattle.std.proofs.lemmas.Nat.Bits.{bit_at-zero, bit_at-pow_other, bit_at_or}
use Rattle.std.proofs.lemmas.Option.{none-some}
use Rattle.ata_types.specs.declared.Port.{Port}
use Rattle.hba_regs.specs.Bits.{bit}
use Rattle.hba_regs.specs.declared.reg.Reg.{Reg}
use Rattle.hba_regs.specs.declared.reg.Reg.TheVariants.{Px}
use Rattle.hba_regs.specs.declared.reg.PortReg.{PortReg}
use Rattle.hba_regs.specs.declared.reg.PortReg.TheVariants.{Is, Cmd, Tfd, Ssts, Serr, Ci}
use Rattle.adapter.specs.Access.{Reads, Writes, device_after_reading, device_after_write, shown_interrupt}
use Rattle.adapter.specs.Device.{FetchedCommand, DevicePort, Device}
use Rattle.adapter.specs.Device.Halt.{HaltedByPlain, HaltedByQueued}
use Rattle.adapter.specs.FirstRead.{first_read_device}
use Rattle.adapter.specs.Memory.{changed}
use Rattle.adapter.specs.ReadDone.{read_of}
use Rattle.adapter.specs.Rules.{MayStart, MayWrite, MayWritePort, IsStable}
use Rattle.adapter.specs.Decoding.{piece_addresses}
use Rattle.adapter.specs.Steps.{Can, device_after, newly_fetched, Steps}
use Rattle.adapter.specs.Steps.DeviceTransition.{Fetch, Fault, Fall}
use Rattle.adapter.proofs.Changed.{changed_other}
use Rattle.adapter.proofs.FirstRead.{first_says}
use Rattle.refinement.specs.StepLaws.{StepLaws}
use Rattle.refinement.specs.Relation.{port_at}
use Rattle.refinement.specs.PortFacts.{IsEngineStopped, PxisValueTellsNoTrouble}
use Rattle.refinement.proofs.device.AllowedWrites.{write_stays}
use Rattle.refinement.specs.RecoveryWitness.{CommandMayHaveFailedBySstsRead, RecoveredWitness}
use Rattle.refinement.specs.HaltRecovery.{IsLinked, WorksOnUnqueuedCommandsOnly}
use Rattle.refinement.specs.TwoReadsWitness.{queued_read, two_issued}
use Rattle.refinement.proofs.device.PlainPort.{plainly_well}
use Rattle.refinement.proofs.witnesses.QueuedReads.{second_told}

-- ---- what the port is, access by access

abbrev port_reg : PortReg → Reg
port_reg r = Px (port_at 0) r

abbrev taken_read : FetchedCommand
taken_read = newly_fetched (read_of 100 8) (piece_addresses 0x64000 8)

abbrev fetched : Device
fetched = device_after (Fetch 0 0 (read_of 100 8) (piece_addresses 0x64000 8)) first_read_device

abbrev failed : Device
failed = device_after (Fault 0 0 0x40 0 taken_read) fetched

abbrev stopping : Device
stopping = device_after_write (port_reg Cmd) 0x10 failed

abbrev stopped : Device
stopped = device_after (Fall 0) stopping

abbrev cleared : Device
cleared = device_after_write (port_reg Serr) 0xffffffff stopped

abbrev quieted : Device
quieted = device_after_write (port_reg Is) 0xffffffff cleared

abbrev idle : Device
idle = device_after_reading (port_reg Tfd) 0x4041 quieted

abbrev ready : Device
ready = device_after_reading (port_reg Ssts) 3 idle

abbrev started : Device
started = device_after_write (port_reg Cmd) 0x11 ready

abbrev found : Device
found = device_after_reading (port_reg Is) 0 started

-- ---- the device's steps

first_fetch : Can (Fetch 0 0 (read_of 100 8) (piece_addresses 0x64000 8)) first_read_device
unfolding changed
first_fetch = record {
  fetchable = record { st_is_set = refl; issued = refl; free = refl };
  working = record { cr_is_set = refl; present = refl; fresh = refl; admitted = refl; is_not_broken = refl };
  is_alone_or_all_are_queued = λ slot t is. absurd (none-some _ is);
  says = first_says;
}

first_fault : Can (Fault 0 0 0x40 0 taken_read) fetched
unfolding changed
first_fault = record { taken = refl; cr_is_set = refl; is_byte = omega arith; kept_bits_are_allowed = refl }

fails : Steps first_read_device failed
fails = record { steps = Fetch 0 0 (read_of 100 8) (piece_addresses 0x64000 8) ∷ Fault 0 0 0x40 0 taken_read ∷ []; lead = (first_fetch, (first_fault, refl)) }

can_fall : Can (Fall 0) stopping
unfolding changed
can_fall = (refl, refl)

-- ---- the accesses

writes : (r : Reg) (v : ℕ) (d : Device) → Writes r v d (device_after_write r v d)
writes r v d = record { at_access = d; steps = record { steps = []; lead = refl }; effect = refl }

waits : Reads (port_reg Tfd) 0x4041 quieted idle
unfolding changed
waits = record { at_access = quieted; steps = record { steps = []; lead = refl }; shows = refl; effect = refl }

sees : Reads (port_reg Ssts) 3 idle ready
unfolding changed
sees = record { at_access = idle; steps = record { steps = []; lead = refl }; shows = refl; effect = refl }

-- 0 has no bit
no_bit : (place : ℕ) → bit 0 place ≡ false
no_bit place = ap (λ (n : ℕ). n == 1) (bit_at-zero place)

-- where no bit is set PxIS may be read 0
none_shown : (p : DevicePort) → p.serr_x ≡ false → p.serr_n ≡ false → ((place : ℕ) → p.is place ≡ false) → (place : ℕ) → bit 0 place ≡ shown_interrupt p place
none_shown p x n is place = no_bit place ∙ sym (by (nat_eq place 6) (nat_eq place 22))
  where
    by : (b c : Bool) → (if b then p.serr_x else (if c then p.serr_n else p.is place)) ≡ false
    by true c = x
    by false true = n
    by false false = is place

clear_errors : ((started.port 0).serr_x ≡ false) × ((started.port 0).serr_n ≡ false)
unfolding changed
clear_errors = (refl, refl)

-- only bit 30 was set, which the write has cleared
all_quiet : (place : ℕ) → (started.port 0).is place ≡ false
unfolding changed
all_quiet place = ⊎_elim
    (λ (e : place ≡ 30). subst (λ (k : ℕ). (changed (λ _. false) 30 true k && not (bit 0xffffffff k)) ≡ false) (sym e) refl)
    (λ (ne : place ≡ 30 → ⊥). ap (λ (b : Bool). b && not (bit 0xffffffff place)) (changed_other (λ _. false) 30 true place ne))
    (cases_eq place 30)

tells : Reads (port_reg Is) 0 started found
tells = record { at_access = started; steps = record { steps = []; lead = refl }; shows = λ place cause. none_shown (started.port 0) clear_errors.0 clear_errors.1 all_quiet place; effect = refl }

no_trouble : PxisValueTellsNoTrouble 0
no_trouble = record { pcs_is_clear = no_bit 6; prcs_is_clear = no_bit 22; bits_27_to_30_are_clear = λ place low high. no_bit place }

-- ---- the writes are permitted

permitted : (r : PortReg) (v : ℕ) (d : Device) → ((p : Port) → port_reg r ≢ Px p Ci) → d.ae ≡ true → d.hr ≡ false → d.pi ≡ 0x0f → MayWritePort r v d (d.port 0) → IsStable (MayWrite (port_reg r) v) d
permitted r v d other ae hr pi x = write_stays (port_reg r) v d other (record { ae_is_set = ae; no_reset = hr }, (omega arith, ap (λ (n : ℕ). bit n 0) pi), x)

-- 10h and 11h have the bits of FRE, and of ST and FRE, alone
one_bit : (place : ℕ) → place ≢ 4 → bit_at 0x10 place ≡ 0
one_bit place receive = bit_at-pow_other 4 place receive

two_bits : (place : ℕ) → place ≢ 0 → place ≢ 4 → bit_at 0x11 place ≡ 0
two_bits place start receive =
    bit_at_or 0x10 1 place ∙ ap (λ (n : ℕ). max n (bit_at 1 place)) (bit_at-pow_other 4 place receive) ∙ ap (λ (n : ℕ). max 0 n) (bit_at-pow_other 0 place start)

-- PxCMD wasn't read
may_stop : IsStable (MayWrite (port_reg Cmd) 0x10) failed
unfolding changed
may_stop = permitted Cmd 0x10 failed (λ p e. cc) refl refl refl (record {
  start = λ b. absurd (false≢true b);
  receive = λ b. inl refl;
  stop_receiving = λ b. absurd (true≢false b);
  other_bits_are_kept = λ place lt start receive. ap (λ (n : ℕ). n == 1) (one_bit place receive ∙ sym (bit_at-zero place));
})

is_startable : MayStart (ready.port 0)
unfolding changed
is_startable = record { cr_is_clear = refl; receives = refl; programmed = record { clb_is_written = refl; clbu_is_written = refl; fb_is_written = refl; fbu_is_written = refl }; link_was_seen = refl; last_tfd_was_idle = refl }

may_start : IsStable (MayWrite (port_reg Cmd) 0x11) ready
unfolding changed
may_start = permitted Cmd 0x11 ready (λ p e. cc) refl refl refl (record {
  start = λ b. inr is_startable;
  receive = λ b. inl refl;
  stop_receiving = λ b. absurd (true≢false b);
  other_bits_are_kept = λ place lt start receive. ap (λ (n : ℕ). n == 1) (two_bits place start receive ∙ sym (bit_at-zero place));
})

-- ---- what is known of it

first_plain : WorksOnUnqueuedCommandsOnly (first_read_device.port 0)
unfolding changed
first_plain = record { start_ends_halt = refl; unarmed = λ slot. refl; taken_are_plain = λ slot t is. absurd (none-some _ is) }

first_linked : IsLinked (first_read_device.port 0)
unfolding changed
first_linked = record { det_is_3 = refl; present = refl; fresh = refl; no_link_is_due = refl; comreset_is_over = λ (e : 0 ≡ 1). omega (arith, e) }

ready_plain : WorksOnUnqueuedCommandsOnly (ready.port 0)
unfolding changed
ready_plain = record { start_ends_halt = refl; unarmed = λ slot. refl; taken_are_plain = λ slot t is. absurd (none-some _ is) }

ready_linked : IsLinked (ready.port 0)
unfolding changed
ready_linked = record { det_is_3 = refl; present = refl; fresh = refl; no_link_is_due = refl; comreset_is_over = λ (e : 0 ≡ 1). omega (arith, e) }

states : ((failed.port 0).halt ≡ HaltedByPlain) × ((ready.port 0).st ≡ false) × ((ready.port 0).cr ≡ false)
unfolding changed
states = (refl, refl, refl)

-- the command was taken when ST was cleared, and isn't any more
stands : IsEngineStopped (stopped.port 0)
unfolding changed
stands = record { st_is_clear = refl; cr_is_clear = refl; no_command_is_issued = λ slot. refl; no_command_is_taken = λ slot. refl }

pub recovery_is_found : StepLaws → RecoveredWitness
recovery_is_found laws = record {
  plain = first_plain;
  linked = first_linked;
  failed = failed;
  fails = fails;
  halted = states.0;
  may_stop = may_stop;
  stopping = stopping;
  stops = writes (port_reg Cmd) 0x10 failed;
  stopped = stopped;
  falls = record { steps = (Fall 0) ∷ []; lead = (can_fall, refl) };
  engine_has_stopped = stands;
  may_clear = permitted Serr 0xffffffff stopped (λ p e. cc) refl refl refl tt;
  cleared = cleared;
  serr_is_cleared = writes (port_reg Serr) 0xffffffff stopped;
  pxis_may_be_cleared = permitted Is 0xffffffff cleared (λ p e. cc) refl refl refl tt;
  quieted = quieted;
  pxis_is_cleared = writes (port_reg Is) 0xffffffff cleared;
  idle = idle;
  tfd_is_read_idle = waits;
  ready = ready;
  ssts_is_read_present = sees;
  may_start = may_start;
  started = started;
  starts = writes (port_reg Cmd) 0x11 ready;
  found = found;
  pxis_is_read_clear = tells;
  still_plain = ready_plain;
  still_linked = ready_linked;
  port_runs_well = plainly_well laws (port_at 0) 0x11 0 ready started found refl states.1 states.2 refl ready_linked ready_plain (writes (port_reg Cmd) 0x11 ready) tells no_trouble;
}

-- ---- the fault is seen

pub fault_is_seen : CommandMayHaveFailedBySstsRead first_read_device 0 HaltedByPlain
unfolding changed
fault_is_seen = record {
  seen = device_after_reading (port_reg Ssts) 3 failed;
  sees = record { at_access = failed; steps = fails; shows = refl; effect = refl };
  halted = refl;
  fault = record { port = port_at 0; slot = record { 0 = 0 }; status = 0x41; error = 0x40 };
  fault_is_on_tape = (0, omega arith, refl);
  fault_is_of_slot = (refl, refl);
}

-- of two queued reads that are issued the second may be taken first, and fail
abbrev second_read : FetchedCommand
second_read = newly_fetched (queued_read 108) (piece_addresses 0x65000 8)

abbrev second_taken : Device
second_taken = device_after (Fetch 0 1 (queued_read 108) (piece_addresses 0x65000 8)) two_issued

abbrev second_failed : Device
second_failed = device_after (Fault 0 1 0x40 0 second_read) second_taken

second_fetch : Can (Fetch 0 1 (queued_read 108) (piece_addresses 0x65000 8)) two_issued
unfolding changed
second_fetch = record {
  fetchable = record { st_is_set = refl; issued = refl; free = refl };
  working = record { cr_is_set = refl; present = refl; fresh = refl; admitted = refl; is_not_broken = refl };
  is_alone_or_all_are_queued = λ slot t is. absurd (none-some _ is);
  says = second_told.decodes_to;
}

second_fault : Can (Fault 0 1 0x40 0 second_read) second_taken
unfolding changed
second_fault = record { taken = refl; cr_is_set = refl; is_byte = omega arith; kept_bits_are_allowed = refl }

second_fails : Steps two_issued second_failed
second_fails = record { steps = Fetch 0 1 (queued_read 108) (piece_addresses 0x65000 8) ∷ Fault 0 1 0x40 0 second_read ∷ []; lead = (second_fetch, (second_fault, refl)) }

pub queued_fault_is_seen : CommandMayHaveFailedBySstsRead two_issued 1 HaltedByQueued
unfolding changed
queued_fault_is_seen = record {
  seen = device_after_reading (port_reg Ssts) 3 second_failed;
  sees = record { at_access = second_failed; steps = second_fails; shows = refl; effect = refl };
  halted = refl;
  fault = record { port = port_at 0; slot = record { 0 = 1 }; status = 0x41; error = 0x40 };
  fault_is_on_tape = (0, omega arith, refl);
  fault_is_of_slot = (refl, refl);
}
