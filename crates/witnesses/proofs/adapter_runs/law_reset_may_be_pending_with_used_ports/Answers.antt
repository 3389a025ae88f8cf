use Rattle.std.proofs.Common.{refl, inl}
use Rattle.adapter.specs.Memory.{changed}
use Rattle.witnesses.proofs.adapter.Resetting.{kept, resetting, resetting_reached, resetting_safe}
use Rattle.witnesses.proofs.adapter.Sets.{is_in}
use Rattle.witnesses.proofs.adapter_runs.law_reset_may_be_pending_with_used_ports.Goals as goal

pub returns : goal.returns
unfolding changed
returns c = record {
  device = resetting;
  reached = resetting_reached;
  safe = record { tables = is_in kept; kept_addresses = is_in kept; guarded = resetting_safe };
  reset_is_pending = refl;
  first_used = inl refl;
  second_used = inl refl;
}
