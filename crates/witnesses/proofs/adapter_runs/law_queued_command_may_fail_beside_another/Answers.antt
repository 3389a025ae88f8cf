use Rattle.std.proofs.Common.{refl}
use Rattle.adapter.specs.Memory.{changed}
use Rattle.witnesses.proofs.adapter.Queued.{kept, issued_safe, failed, failed_reached, failed_steps, one, other, issued, taken}
use Rattle.witnesses.proofs.adapter.Sets.{is_in}
use Rattle.witnesses.proofs.adapter_runs.law_queued_command_may_fail_beside_another.Goals as goal

pub returns : goal.returns
unfolding changed
returns c = record {
  device = failed;
  reached = failed_reached;
  safe = record { tables = is_in kept; kept_addresses = is_in kept; guarded = (c.law_kept_bytes_stay_over_device_steps.ensures (is_in kept) (is_in kept) issued failed issued_safe failed_steps).0 };
  one = one;
  other = other;
  both_are_queued = (refl, refl);
  failed_is_taken = refl;
  other_is_taken = refl;
  halted = refl;
  tfes_is_set = refl;
  fault_is_on_tape = (taken.tape, refl);
}
