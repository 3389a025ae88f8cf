-- The read fails, and a service that finds it so stops its port and sets ST again. This is the way of the device.
use Rattle.std.proofs.Common.{ℕ, ◌≡◌, false, List, [], ◌∷◌, ◌++◌, refl, sym, ap, subst, arith, ◌∙◌}
use Rattle.std.proofs.lemmas.Bool.{true≢false}
use Rattle.std.specs.List.{All}
use Rattle.std.proofs.lemmas.List.Elements.{All-nil, All-cons}
use Rattle.hba_regs.specs.declared.reg.Reg.TheVariants.{Px}
use Rattle.hba_regs.specs.declared.reg.PortReg.{PortReg}
use Rattle.hba_regs.specs.declared.reg.PortReg.TheVariants.{Is, Cmd, Tfd, Serr, Sact, Ci}
use Rattle.adapter.specs.Access.{Access, DoesAll, PortShows, Reads, Writes, notes_after_reading, port_after_write}
use Rattle.adapter.specs.Access.Access.{Reading, Writing}
use Rattle.adapter.specs.Device.{DevicePort, Device}
use Rattle.adapter.specs.Memory.{changed}
use Rattle.witnesses.specs.AllowedAccesses.{AreAllowed}
use Rattle.adapter.specs.Steps.{Steps, port_after_fault}
use Rattle.adapter.specs.Steps.DeviceTransition.{Fault as FaultStep}
use Rattle.adapter.specs.declared.tape.Entry.{Entry}
use Rattle.adapter.specs.declared.tape.Entry.TheVariants as entry
use Rattle.adapter.specs.declared.tape.Fault as tape_fault
use Rattle.refinement.specs.Relation.{port_at}
use Rattle.block_machine.specs.Ports.{RequestFault}
use Rattle.block_machine.specs.State.{Pending}
use Rattle.error_recovery.specs.Evidence.{HasFailed}
use Rattle.driver_history.specs.Evidence.{IsFaultTold}
use Rattle.driver_history.specs.AccessTrace.{DoesNotWriteCmd}
use Rattle.witnesses.specs.Recovery.{stop_clear_and_restart_accesses, told_fault}
use Rattle.witnesses.specs.RunningAdapter.{running_device}
use Rattle.witnesses.proofs.history.Command.{read_memory}
use Rattle.witnesses.proofs.history.Devices.{may_start, may_stop, but_first, fall, falls_reads, no_bit, put_device, reads, writes}
use Rattle.witnesses.proofs.history.Submitting.{command, fetches, pages, second, submitted, taken}
use Rattle.witnesses.proofs.history.Accepting.{in_book, serves, serves_plain, submitted_at, waiting}

-- ---- the way

abbrev pub fault : tape_fault.Fault
fault = record { port = record { 0 = 0 }; slot = record { 0 = 0 }; status = 0x41; error = 0x40 }

abbrev pub tape_failed : List Entry
tape_failed = pages ++ entry.Fault fault ∷ []

abbrev dev : DevicePort → Device
dev p = running_device tape_failed read_memory (p ∷ second ∷ [])

abbrev failed : DevicePort
failed = port_after_fault taken false 0x40 0

abbrev seen_ci : DevicePort
seen_ci = record failed { notes = notes_after_reading Ci 1 failed }

abbrev seen_masks : DevicePort
seen_masks = record seen_ci { notes = notes_after_reading Sact 0 seen_ci }

abbrev looked : DevicePort
looked = record seen_masks { notes = notes_after_reading Tfd 0x4041 seen_masks }

abbrev commanded : DevicePort
commanded = record looked { notes = notes_after_reading Cmd 0xc011 looked }

abbrev stopping : DevicePort
stopping = port_after_write Cmd 0xc010 3 commanded

abbrev stopped : DevicePort
stopped = record (fall stopping) { notes = notes_after_reading Cmd 0x4010 (fall stopping) }

abbrev unchanged_link : DevicePort
unchanged_link = port_after_write Serr 0xffffffff 3 stopped

abbrev cleared : DevicePort
cleared = port_after_write Is 0xffffffff 3 unchanged_link

abbrev checked : DevicePort
checked = record cleared { notes = notes_after_reading Tfd 0x4041 cleared }

abbrev asked_again : DevicePort
asked_again = record checked { notes = notes_after_reading Cmd 0x4010 checked }

abbrev pub started : DevicePort
started = port_after_write Cmd 0x4011 3 asked_again

fails : Steps (running_device pages read_memory (taken ∷ second ∷ [])) (dev failed)
unfolding changed
fails = record {
  steps = FaultStep 0 0 0x40 0 command ∷ [];
  lead = (
    record { taken = refl; cr_is_set = refl; is_byte = omega arith; kept_bits_are_allowed = refl },
    put_device tape_failed read_memory 0 (taken ∷ second ∷ []) (failed ∷ second ∷ []) failed refl (but_first taken failed (second ∷ [])),
  );
}

reads_masks : Reads (Px (port_at 0) Ci) 1 submitted (dev seen_ci)
reads_masks = record {
  at_access = dev failed;
  steps = fetches (dev failed) fails;
  shows = λ k low. refl;
  effect = put_device tape_failed read_memory 0 (failed ∷ second ∷ []) (seen_ci ∷ second ∷ []) seen_ci refl (but_first failed seen_ci (second ∷ []));
}

-- an access of port 0
reads_here : (r : PortReg) (v : ℕ) (p : DevicePort) → PortShows r v p → Reads (Px (port_at 0) r) v (dev p) (dev (record p { notes = notes_after_reading r v p }))
reads_here r v p shows = reads tape_failed read_memory 0 (p ∷ second ∷ []) (record p { notes = notes_after_reading r v p } ∷ second ∷ []) (but_first p (record p { notes = notes_after_reading r v p }) (second ∷ [])) r v shows refl

writes_here : (r : PortReg) (v : ℕ) (p : DevicePort) → Writes (Px (port_at 0) r) v (dev p) (dev (port_after_write r v 3 p))
writes_here r v p = writes tape_failed read_memory 0 (p ∷ second ∷ []) (port_after_write r v 3 p ∷ second ∷ []) (but_first p (port_after_write r v 3 p) (second ∷ [])) r v refl

abbrev pub until_stop : List Access
until_stop = Reading (Px (port_at 0) Ci) 1 ∷ Reading (Px (port_at 0) Sact) 0 ∷ Reading (Px (port_at 0) Tfd) 0x4041 ∷ []

abbrev pub from_fall : List Access
from_fall =
    Writing (Px (port_at 0) Serr) 0xffffffff ∷ Writing (Px (port_at 0) Is) 0xffffffff
    ∷ Reading (Px (port_at 0) Tfd) 0x4041 ∷ Reading (Px (port_at 0) Cmd) 0x4010 ∷ Writing (Px (port_at 0) Cmd) 0x4011 ∷ []

abbrev pub from_stop : List Access
from_stop = Reading (Px (port_at 0) Cmd) 0xc011 ∷ Writing (Px (port_at 0) Cmd) 0xc010 ∷ Reading (Px (port_at 0) Cmd) 0x4010 ∷ from_fall

starts : DoesAll from_fall (dev stopped) (dev started)
starts = (
  dev unchanged_link,
  writes_here Serr 0xffffffff stopped,
  (
    dev cleared,
    writes_here Is 0xffffffff unchanged_link,
    (
      dev checked,
      reads_here Tfd 0x4041 cleared refl,
      (
        dev asked_again,
        reads_here Cmd 0x4010 checked (refl, refl, refl, refl),
        (dev started, writes_here Cmd 0x4011 asked_again, refl),
      ),
    ),
  ),
)

falls : Reads (Px (port_at 0) Cmd) 0x4010 (dev stopping) (dev stopped)
falls = falls_reads tape_failed read_memory 0 0x4010 (stopping ∷ second ∷ []) (fall stopping ∷ second ∷ []) (stopped ∷ second ∷ []) (but_first stopping (fall stopping) (second ∷ [])) (but_first (fall stopping) stopped (second ∷ []))
    refl refl refl (refl, refl, refl, refl) refl

rest : DoesAll from_stop (dev looked) (dev started)
rest = (
  dev commanded,
  reads_here Cmd 0xc011 looked (refl, refl, refl, refl),
  (
    dev stopping,
    writes_here Cmd 0xc010 commanded,
    (dev stopped, falls, starts),
  ),
)

-- what is done once PxTFD was read follows what was done until then
looks : (late : List Access) (new : Device) → DoesAll late (dev looked) new → DoesAll (until_stop ++ late) submitted new
looks late new more = (
  dev seen_ci,
  reads_masks,
  (
    dev seen_masks,
    reads_here Sact 0 seen_ci (λ k low. no_bit k),
    (dev looked, reads_here Tfd 0x4041 seen_masks refl, more),
  ),
)

pub does : DoesAll stop_clear_and_restart_accesses (submitted) (dev started)
does = looks from_stop (dev started) rest

abbrev pub recovered : Device
recovered = dev started

-- ---- by the rules

pub allowed : AreAllowed stop_clear_and_restart_accesses submitted recovered does
unfolding changed does looks reads_masks rest falls starts reads_here writes_here reads writes falls_reads
allowed = (
  (record { ae_is_set = refl; no_reset = refl }, (omega arith, refl)),
  (
    (record { ae_is_set = refl; no_reset = refl }, (omega arith, refl)),
    (
      (record { ae_is_set = refl; no_reset = refl }, (omega arith, refl)),
      (
        (record { ae_is_set = refl; no_reset = refl }, (omega arith, refl)),
        (
          (record { ae_is_set = refl; no_reset = refl }, (omega arith, refl), may_stop commanded 0xc010 0xc011 refl refl refl refl refl),
          (
            (record { ae_is_set = refl; no_reset = refl }, (omega arith, refl)),
            (
              (record { ae_is_set = refl; no_reset = refl }, (omega arith, refl), tt),
              (
                (record { ae_is_set = refl; no_reset = refl }, (omega arith, refl), tt),
                (
                  (record { ae_is_set = refl; no_reset = refl }, (omega arith, refl)),
                  (
                    (record { ae_is_set = refl; no_reset = refl }, (omega arith, refl)),
                    (
                      (
                        record { ae_is_set = refl; no_reset = refl },
                        (omega arith, refl),
                        may_start asked_again 0x4011 0x4010 refl refl refl refl
                            (record { cr_is_clear = refl; receives = refl; programmed = record { clb_is_written = refl; clbu_is_written = refl; fb_is_written = refl; fbu_is_written = refl }; link_was_seen = refl; last_tfd_was_idle = refl }),
                      ),
                      tt,
                    ),
                  ),
                ),
              ),
            ),
          ),
        ),
      ),
    ),
  ),
)

-- ---- the fault

running : All (DoesNotWriteCmd (port_at 0)) until_stop
running =
    All-cons (DoesNotWriteCmd (port_at 0)) (Reading (Px (port_at 0) Ci) 1) (Reading (Px (port_at 0) Sact) 0 ∷ Reading (Px (port_at 0) Tfd) 0x4041 ∷ []) tt
    (All-cons (DoesNotWriteCmd (port_at 0)) (Reading (Px (port_at 0) Sact) 0) (Reading (Px (port_at 0) Tfd) 0x4041 ∷ []) tt
    (All-cons (DoesNotWriteCmd (port_at 0)) (Reading (Px (port_at 0) Tfd) 0x4041) [] tt (All-nil (DoesNotWriteCmd (port_at 0)))))

has_failed : HasFailed (port_at 0) stop_clear_and_restart_accesses submitted recovered fault
has_failed = record {
  device_before_stop = dev looked;
  cmd_is_unwritten = record {
    early = until_stop;
    late = from_stop;
    accesses_are = refl;
    cmd_is_unwritten = running;
    does_early = looks [] (dev looked) refl;
    does_late = rest;
  };
  fault_is_told = (2, omega arith, refl);
  port_is = refl;
}

pub told : (t : RequestFault) → t ≡ told_fault → IsFaultTold submitted_at recovered stop_clear_and_restart_accesses t
told t is = subst (IsFaultTold submitted_at recovered stop_clear_and_restart_accesses) (sym is) (record {
  pending = waiting;
  is_in_book = (0, omega arith, refl);
  issued = refl;
  id_is = refl;
  slot = 0;
  serves = serves;
  backs_plain_fault = λ _. record {
    is_only_issued = λ other here at is. ap (λ (e : Pending). e.request.id) (in_book 0 other here);
    fault = fault;
    failed = has_failed;
    slot_is = refl;
    status_is = refl;
    error_is = refl;
  };
  backs_queued_fault = λ q. absurd (true≢false (sym q ∙ serves_plain));
})
