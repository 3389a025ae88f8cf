-- The read is done when a service looks at its port; then the disk of the next port is taken out. This is the way of the device.
use Rattle.std.proofs.Common.{ℕ, zero, suc, ◌≡◌, ◌<◌, true, false, List, [], ◌∷◌, ◌++◌, None, Some, refl, sym, ◌∙◌, arith, inl}
use Rattle.std.proofs.lemmas.List.{length-replicate}
use Rattle.std.proofs.lemmas.List.Elements.{All-replicate}
use Rattle.hba_regs.specs.declared.reg.Reg.TheVariants.{Px}
use Rattle.hba_regs.specs.declared.reg.PortReg.{PortReg}
use Rattle.hba_regs.specs.declared.reg.PortReg.TheVariants.{Cmd, Ssts, Serr, Sact, Ci}
use Rattle.adapter.specs.Access.{DoesAll, PortShows, Reads, Writes, notes_after_reading, port_after_write}
use Rattle.adapter.specs.Device.{IsValidSector, DevicePort, Device}
use Rattle.adapter.specs.FirstRead.{first_disk_sector}
use Rattle.adapter.specs.Memory.{changed, patched}
use Rattle.witnesses.specs.AllowedAccesses.{AreAllowed}
use Rattle.adapter.specs.Steps.{Steps, done_entry, move_of, port_after_done_except_lasting, port_after_move}
use Rattle.adapter.specs.Steps.DeviceTransition.{Move, Done, Unplug}
use Rattle.adapter.specs.declared.command.Operation.TheVariants.{Read, Trim}
use Rattle.adapter.specs.declared.tape.Entry.{Entry}
use Rattle.adapter.specs.declared.tape.Entry.TheVariants as entry
use Rattle.refinement.specs.Relation.{port_at}
use Rattle.refinement.specs.Slots.{IsEmptySlot}
use Rattle.witnesses.specs.Loss.{completing_turn, losing_turn}
use Rattle.witnesses.specs.RunningAdapter.{running_device}
use Rattle.witnesses.proofs.history.Command.{read_memory}
use Rattle.witnesses.proofs.history.Submitting.{command, fetches, issued, others_clear, pages, second, submitted, taken}
use Rattle.witnesses.proofs.history.Devices.{may_stop, but_first, but_second, fall, falls_reads, no_bit, past_first, put_device, reads, step_first, writes}

-- ---- the read is done

abbrev moved : DevicePort
moved = port_after_move taken 0 command (first_disk_sector 100)

abbrev done : DevicePort
done = port_after_done_except_lasting moved 0 0 Read

abbrev pub tape_moved : List Entry
tape_moved = pages ++ entry.Move (move_of 0 0 command (first_disk_sector 100)) ∷ []

abbrev pub tape_done : List Entry
tape_done = tape_moved ++ done_entry 0 0 Read ∷ []

unfoldable pub memory_done : ℕ → ℕ
memory_done = patched read_memory 0x64000 (first_disk_sector 100)

pub is_sector : (k : ℕ) → k < 256 → IsValidSector (first_disk_sector k)
unfolding first_disk_sector
is_sector k low = (length-replicate {A = ℕ} 512 k, All-replicate (λ b. b < 256) 512 k low)

moves : (new : Device) → Steps (running_device tape_moved memory_done (moved ∷ second ∷ [])) new → Steps (running_device pages read_memory (taken ∷ second ∷ [])) new
unfolding changed memory_done
moves new = step_first (Move 0 0 command (first_disk_sector 100)) (running_device pages read_memory (taken ∷ second ∷ [])) (running_device tape_moved memory_done (moved ∷ second ∷ [])) new
    (record {
      works = record { taken = refl; working = record { cr_is_set = refl; present = refl; fresh = refl; admitted = refl; is_not_broken = refl } };
      piece_is_left = omega arith;
      bytes_are_sector = is_sector 100 (omega arith);
      brings = (omega arith, refl);
    })
    (put_device tape_moved memory_done 0 (taken ∷ second ∷ []) (moved ∷ second ∷ []) moved refl (but_first taken moved (second ∷ [])))

ends : Steps (running_device tape_moved memory_done (moved ∷ second ∷ [])) (running_device tape_done memory_done (done ∷ second ∷ []))
unfolding changed
ends = record {
  steps = Done 0 0 0 (record command { moved = 1 }) ∷ [];
  lead = (
    record {
      works = record { taken = refl; working = record { cr_is_set = refl; present = refl; fresh = refl; admitted = refl; is_not_broken = refl } };
      finished = record { all_is_moved = refl; all_is_cleared = λ e. absurd (let x : Read ≡ Trim = e in cc) };
      cause_is_allowed = inl refl;
    },
    put_device tape_done memory_done 0 (moved ∷ second ∷ []) (done ∷ second ∷ []) done refl (but_first moved done (second ∷ [])),
  );
}

-- no command is left
done_clear : (k : ℕ) → done.ci k ≡ false
unfolding changed
done_clear zero = refl
done_clear (suc k) = past_first issued.ci false k ∙ others_clear k

abbrev seen : DevicePort
seen = record done { notes = notes_after_reading Ci 0 done }

abbrev pub found : DevicePort
found = record seen { notes = notes_after_reading Sact 0 seen }

abbrev pub between : Device
between = running_device tape_done memory_done (found ∷ second ∷ [])

pub finds : DoesAll completing_turn submitted between
finds = (
  running_device tape_done memory_done (seen ∷ second ∷ []),
  record {
    at_access = running_device tape_done memory_done (done ∷ second ∷ []);
    steps = fetches (running_device tape_done memory_done (done ∷ second ∷ [])) (moves (running_device tape_done memory_done (done ∷ second ∷ [])) ends);
    shows = λ k low. no_bit k ∙ sym (done_clear k);
    effect = put_device tape_done memory_done 0 (done ∷ second ∷ []) (seen ∷ second ∷ []) seen refl (but_first done seen (second ∷ []));
  },
  (between, reads tape_done memory_done 0 (seen ∷ second ∷ []) (found ∷ second ∷ []) (but_first seen found (second ∷ [])) Sact 0 (λ k low. no_bit k) refl, refl),
)

pub found_free : (k : ℕ) → IsEmptySlot found k
unfolding changed
found_free k = record { is_not_issued = done_clear k; is_not_taken = free k; unarmed = refl }
  where
    free : (k : ℕ) → done.taken k ≡ None
    free zero = refl
    free (suc k) = past_first moved.taken None k ∙ past_first taken.taken (Some (record command { moved = 1 })) k ∙ past_first issued.taken (Some command) k

-- ---- the disk of the other port goes

abbrev out : DevicePort
out = record second { ssts_det = 0; present = false; fresh = false; serr_n = true }

abbrev looked : DevicePort
looked = record out { notes = notes_after_reading Ssts 0 out }

abbrev commanded : DevicePort
commanded = record looked { notes = notes_after_reading Cmd 0xc011 looked }

abbrev stopping : DevicePort
stopping = port_after_write Cmd 0xc010 5 commanded

abbrev stopped : DevicePort
stopped = record (fall stopping) { notes = notes_after_reading Cmd 0x4010 (fall stopping) }

abbrev cleared : DevicePort
cleared = port_after_write Serr 0xffffffff 5 stopped

abbrev pub gone : DevicePort
gone = record cleared { notes = notes_after_reading Ssts 0 cleared }

abbrev pub tape_lost : List Entry
tape_lost = tape_done ++ entry.Unplug (port_at 1) ∷ []

abbrev lost_with : DevicePort → Device
lost_with p = running_device tape_lost memory_done (found ∷ p ∷ [])

abbrev pub lost : Device
lost = lost_with gone

goes : Steps between (lost_with out)
goes = record { steps = Unplug 1 ∷ []; lead = (refl, put_device tape_lost memory_done 1 (found ∷ second ∷ []) (found ∷ out ∷ []) out refl (but_second found second out [])) }

-- an access of port 1
reads_there : (r : PortReg) (v : ℕ) (p : DevicePort) → PortShows r v p → Reads (Px (port_at 1) r) v (lost_with p) (lost_with (record p { notes = notes_after_reading r v p }))
reads_there r v p shows = reads tape_lost memory_done 1 (found ∷ p ∷ []) (found ∷ record p { notes = notes_after_reading r v p } ∷ []) (but_second found p (record p { notes = notes_after_reading r v p }) []) r v shows refl

writes_there : (r : PortReg) (v : ℕ) (p : DevicePort) → Writes (Px (port_at 1) r) v (lost_with p) (lost_with (port_after_write r v 5 p))
writes_there r v p = writes tape_lost memory_done 1 (found ∷ p ∷ []) (found ∷ port_after_write r v 5 p ∷ []) (but_second found p (port_after_write r v 5 p) []) r v refl

falls : Reads (Px (port_at 1) Cmd) 0x4010 (lost_with stopping) (lost_with stopped)
falls = falls_reads tape_lost memory_done 1 0x4010 (found ∷ stopping ∷ []) (found ∷ fall stopping ∷ []) (found ∷ stopped ∷ []) (but_second found stopping (fall stopping) []) (but_second found (fall stopping) stopped [])
    refl refl refl (refl, refl, refl, refl) refl

pub loses : DoesAll losing_turn between lost
loses = (
  lost_with looked,
  record {
    at_access = lost_with out;
    steps = goes;
    shows = refl;
    effect = put_device tape_lost memory_done 1 (found ∷ out ∷ []) (found ∷ looked ∷ []) looked refl (but_second found out looked []);
  },
  (
    lost_with commanded,
    reads_there Cmd 0xc011 looked (refl, refl, refl, refl),
    (
      lost_with stopping,
      writes_there Cmd 0xc010 commanded,
      (
        lost_with stopped,
        falls,
        (
          lost_with cleared,
          writes_there Serr 0xffffffff stopped,
          (lost, reads_there Ssts 0 cleared refl, refl),
        ),
      ),
    ),
  ),
)

-- ---- by the rules

pub finding_allowed : AreAllowed completing_turn submitted between finds
unfolding finds reads
finding_allowed = (
  (record { ae_is_set = refl; no_reset = refl }, (omega arith, refl)),
  (
    (record { ae_is_set = refl; no_reset = refl }, (omega arith, refl)),
    tt,
  ),
)

pub losing_allowed : AreAllowed losing_turn between lost loses
unfolding loses falls reads_there writes_there reads writes falls_reads
losing_allowed = (
  (record { ae_is_set = refl; no_reset = refl }, (omega arith, refl)),
  (
    (record { ae_is_set = refl; no_reset = refl }, (omega arith, refl)),
    (
      (record { ae_is_set = refl; no_reset = refl }, (omega arith, refl), may_stop commanded 0xc010 0xc011 refl refl refl refl refl),
      (
        (record { ae_is_set = refl; no_reset = refl }, (omega arith, refl)),
        (
          (record { ae_is_set = refl; no_reset = refl }, (omega arith, refl), tt),
          (
            (record { ae_is_set = refl; no_reset = refl }, (omega arith, refl)),
            tt,
          ),
        ),
      ),
    ),
  ),
)
