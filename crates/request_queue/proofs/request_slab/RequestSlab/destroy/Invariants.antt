use Rattle.std.proofs.Common.{◌≡◌, ℕ, get_or, None, vec_len}
use Rattle.request_queue.proofs.request_slab.RequestSlab.destroy.Given as goal

abbrev pub invariant-loop-slot : goal.invariant-loop-slot
invariant-loop-slot l = (k : ℕ) → get_or l.loans.items k None ≡ None

abbrev pub decreases-loop-slot : goal.decreases-loop-slot
decreases-loop-slot l = vec_len l.loans
