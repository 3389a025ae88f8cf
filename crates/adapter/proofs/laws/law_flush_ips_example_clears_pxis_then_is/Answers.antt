use Rattle.std.proofs.Common.{refl, inl}
use Rattle.adapter.specs.Memory.{changed}
use Rattle.adapter.proofs.Pending.{named_enabled}
use Rattle.adapter.proofs.laws.law_flush_ips_example_clears_pxis_then_is.Goals as goal

pub returns-clause-none_is_pending : goal.returns-clause-none_is_pending
unfolding changed
returns-clause-none_is_pending c = refl

pub returns-clause-causes_are_enabled : goal.returns-clause-causes_are_enabled
unfolding changed
returns-clause-causes_are_enabled c = (refl, named_enabled)

pub returns-clause-flush_may_end : goal.returns-clause-flush_may_end
unfolding changed
returns-clause-flush_may_end c = record {
  works = record { taken = refl; working = record { cr_is_set = refl; present = refl; fresh = refl; admitted = refl; is_not_broken = refl } };
  finished = record { all_is_moved = refl; all_is_cleared = λ e. refl };
  cause_is_allowed = inl refl;
}

pub returns-clause-end_is_pending : goal.returns-clause-end_is_pending
unfolding changed
returns-clause-end_is_pending c = refl

pub returns-clause-stays_while_cause_shows : goal.returns-clause-stays_while_cause_shows
unfolding changed
returns-clause-stays_while_cause_shows c = refl

pub returns-clause-stays_without_cause : goal.returns-clause-stays_without_cause
unfolding changed
returns-clause-stays_without_cause c = refl

pub returns-clause-goes_by_is_write : goal.returns-clause-goes_by_is_write
unfolding changed
returns-clause-goes_by_is_write c = refl
