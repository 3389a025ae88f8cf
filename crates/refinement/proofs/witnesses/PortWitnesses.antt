-- Ports of which the facts speak: one that runs, one that a fault has halted, and one that stands.
use Rattle.std.proofs.Common.{◌≡◌, true, ◌∷◌, [], refl, arith}
use Rattle.std.proofs.lemmas.Bool.{false≢true}
use Rattle.std.proofs.lemmas.Option.{none-some}
use Rattle.adapter.specs.Device.{FetchedCommand, Device}
use Rattle.adapter.specs.Device.Halt.{HaltedByPlain}
use Rattle.adapter.specs.FirstRead.{first_read_device}
use Rattle.adapter.specs.Memory.{changed}
use Rattle.adapter.specs.ReadDone.{read_of}
use Rattle.adapter.specs.Decoding.{piece_addresses}
use Rattle.adapter.specs.Steps.{Can, device_after, newly_fetched, Steps}
use Rattle.adapter.specs.Steps.DeviceTransition.{Fetch, Fault}
use Rattle.adapter.proofs.FirstRead.{first_says}
use Rattle.refinement.specs.PortFacts.{RecordsFaults, IsCleanToStart}
use Rattle.refinement.proofs.device.RecordedFaults.{running_faulted, steps_recorded}

pub first_recorded : RecordsFaults first_read_device.tape (first_read_device.port 0) 0
unfolding changed
first_recorded = record {
  st_set_is_on_tape = omega arith;
  no_link_is_due = refl;
  tfes_tells_fault = λ f. absurd (false≢true f);
  shows_last_fault = λ f. running_faulted f;
}

-- the port beside it has no device
pub second_quiet : IsCleanToStart (first_read_device.port 1)
unfolding changed
second_quiet = record { is_stopped_tfes_clear = (refl, refl); no_link_is_due = refl; no_comreset = λ (e : 0 ≡ 1). omega (arith, e) }

-- the read is taken, and fails
abbrev taken_read : FetchedCommand
taken_read = newly_fetched (read_of 100 8) (piece_addresses 0x64000 8)

abbrev fetched : Device
fetched = device_after (Fetch 0 0 (read_of 100 8) (piece_addresses 0x64000 8)) first_read_device

abbrev failed : Device
failed = device_after (Fault 0 0 0x40 0 taken_read) fetched

first_fetch : Can (Fetch 0 0 (read_of 100 8) (piece_addresses 0x64000 8)) first_read_device
unfolding changed
first_fetch = record {
  fetchable = record { st_is_set = refl; issued = refl; free = refl };
  working = record { cr_is_set = refl; present = refl; fresh = refl; admitted = refl; is_not_broken = refl };
  is_alone_or_all_are_queued = λ slot t is. absurd (none-some _ is);
  says = first_says;
}

first_fault : Can (Fault 0 0 0x40 0 taken_read) fetched
unfolding changed
first_fault = record { taken = refl; cr_is_set = refl; is_byte = omega arith; kept_bits_are_allowed = refl }

failing : Steps first_read_device failed
failing = record { steps = Fetch 0 0 (read_of 100 8) (piece_addresses 0x64000 8) ∷ Fault 0 0 0x40 0 taken_read ∷ []; lead = (first_fetch, (first_fault, refl)) }

failed_halted : ((failed.port 0).halt ≡ HaltedByPlain) × ((failed.port 0).st ≡ true)
unfolding changed
failed_halted = (refl, refl)

pub first_failed : (new : Device) × Steps first_read_device new × ((new.port 0).halt ≡ HaltedByPlain) × RecordsFaults new.tape (new.port 0) 0
first_failed = (failed, failing, failed_halted.0, steps_recorded 0 first_read_device failed failing (λ st. first_recorded) failed_halted.1)
