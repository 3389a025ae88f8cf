use Rattle.request_queue.proofs.Lending.{frames_apart, still_accepted, all_lent, all_answered, all_issued, all_requeued, all_aged, all_revoked, all_stand}
use Rattle.request_queue.proofs.laws.law_entries_stay_well_formed.Goals as goal

pub returns-clause-frames_are_disjoint : goal.returns-clause-frames_are_disjoint
returns-clause-frames_are_disjoint c = frames_apart

pub returns-clause-disjoint_loans_preserve_it : goal.returns-clause-disjoint_loans_preserve_it
returns-clause-disjoint_loans_preserve_it c = still_accepted

pub returns-clause-lent : goal.returns-clause-lent
returns-clause-lent c = all_lent

pub returns-clause-answered : goal.returns-clause-answered
returns-clause-answered c = all_answered

pub returns-clause-issued : goal.returns-clause-issued
returns-clause-issued c = all_issued

pub returns-clause-requeued : goal.returns-clause-requeued
returns-clause-requeued c = all_requeued

pub returns-clause-aged : goal.returns-clause-aged
returns-clause-aged c = all_aged

pub returns-clause-revoked : goal.returns-clause-revoked
returns-clause-revoked c = all_revoked

pub returns-clause-frames_are_lent_to_all : goal.returns-clause-frames_are_lent_to_all
returns-clause-frames_are_lent_to_all c = all_stand
