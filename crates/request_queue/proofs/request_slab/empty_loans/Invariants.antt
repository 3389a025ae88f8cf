use Rattle.std.proofs.Common.{◌≡◌, ◌≤◌, None, replicate, vec_len}
use Rattle.std.specs.Vec.{vec_capacity}
use Rattle.request_queue.proofs.request_slab.empty_loans.Given as goal

abbrev pub invariant-loop : goal.invariant-loop
invariant-loop l = record {
  items : l.loans.items ≡ replicate l.counter None;
  length : vec_len l.loans ≡ l.counter;
  capacity : l.count ≤ vec_capacity l.loans;
}
