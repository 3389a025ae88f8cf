use Rattle.port_control.proofs.Using.{failing_sticks, failing_receiving_sticks, falls_then, falls_since, sticks_then, sticks_since}
use Rattle.port_control.proofs.laws.law_engine_evidence_shows_in_longer_traces.Goals as goal

pub returns-clause-failing_sticks : goal.returns-clause-failing_sticks
returns-clause-failing_sticks c = failing_sticks

pub returns-clause-failing_receiving_sticks : goal.returns-clause-failing_receiving_sticks
returns-clause-failing_receiving_sticks c = failing_receiving_sticks

pub returns-clause-falls_with_later_accesses : goal.returns-clause-falls_with_later_accesses
returns-clause-falls_with_later_accesses c = falls_then

pub returns-clause-falls_with_earlier_accesses : goal.returns-clause-falls_with_earlier_accesses
returns-clause-falls_with_earlier_accesses c = falls_since

pub returns-clause-sticks_with_later_accesses : goal.returns-clause-sticks_with_later_accesses
returns-clause-sticks_with_later_accesses c = sticks_then

pub returns-clause-sticks_with_earlier_accesses : goal.returns-clause-sticks_with_earlier_accesses
returns-clause-sticks_with_earlier_accesses c = sticks_since
