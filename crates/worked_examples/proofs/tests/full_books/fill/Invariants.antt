use Rattle.std.proofs.Common.{◌≤◌, ◌≡◌, [], All}
use Rattle.worked_examples.proofs.tests.full_books.fill.Given as goal

-- the ids so far, and that nothing is lent
abbrev pub invariant-loop-number : goal.invariant-loop-number
invariant-loop-number g l = All (λ e. e.request.id.0 ≤ l.number) l.book × All (λ e. e.frames ≡ []) l.book
