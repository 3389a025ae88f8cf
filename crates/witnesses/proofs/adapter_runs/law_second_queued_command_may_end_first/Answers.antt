use Rattle.std.proofs.Common.{refl}
use Rattle.adapter.specs.Memory.{changed}
use Rattle.witnesses.proofs.adapter.Queued.{kept, issued_safe, moved, moved_reached, moved_steps, one, other_moved, may_end, issued}
use Rattle.witnesses.proofs.adapter.Sets.{is_in}
use Rattle.witnesses.proofs.adapter_runs.law_second_queued_command_may_end_first.Goals as goal

pub returns : goal.returns
unfolding changed
returns c = record {
  device = moved;
  reached = moved_reached;
  safe = record { tables = is_in kept; kept_addresses = is_in kept; guarded = (c.law_kept_bytes_stay_over_device_steps.ensures (is_in kept) (is_in kept) issued moved issued_safe moved_steps).0 };
  first_command = one;
  second_command = other_moved;
  both_are_queued = (refl, refl);
  first_is_taken = refl;
  second_may_end = may_end;
  first_stays_taken = refl;
}
