use Rattle.adapter.proofs.Pending.{accesses_pend, pending_cleared, pending_shown, steps_pend}
use Rattle.adapter.proofs.laws.law_ips_stays_set_until_written_or_hba_reset.Goals as goal

pub returns-clause-steps : goal.returns-clause-steps
returns-clause-steps c = steps_pend

pub returns-clause-accesses : goal.returns-clause-accesses
returns-clause-accesses c = accesses_pend

pub returns-clause-is_reading_shows_pending : goal.returns-clause-is_reading_shows_pending
returns-clause-is_reading_shows_pending c = pending_shown

pub returns-clause-is_write_leaves_raised : goal.returns-clause-is_write_leaves_raised
returns-clause-is_write_leaves_raised c = pending_cleared
