use Rattle.std.proofs.Common.{◌-◌, ◌≤◌}
use Rattle.port_driver.proofs.Earliest.{ProbeResult}
use Rattle.port_driver.proofs.slot_table.earliest_of.Given as goal

abbrev pub invariant-loop-past : goal.invariant-loop-past
invariant-loop-past l = record {
  within : l.past ≤ 32;
  found : ProbeResult l.requests l.mask l.past l.earliest l.least.0;
}

abbrev pub decreases-loop-past : goal.decreases-loop-past
decreases-loop-past l = 32 - l.past
