use Rattle.std.proofs.Common.{ℕ, ◌≡◌, ◌↔◌, List, Bool, false, IsTrue, sym, ◌∙◌}
use Rattle.std.proofs.lemmas.Bool.{false≢true}
use Rattle.refinement.specs.Relation.{port_at}
use Rattle.request_queue.specs.BookEntries.{BookEntry, HasAnyOverdue, HasOverdueOn}
use Rattle.block_server.proofs.Four.{of_four}
use Rattle.block_server.proofs.by_port.overdue_ports.Goals as goal

-- it is told of a port whether a request of it is overdue
abbrev IsTold : List BookEntry → ℕ → Bool → Type 0
IsTold book number overdue = IsTrue overdue ↔ HasOverdueOn (port_at number) book

-- where none is overdue, none of a port is
none : (book : List BookEntry) (any_overdue : Bool) → any_overdue ≡ false → IsTrue any_overdue ↔ HasAnyOverdue book → (number : ℕ) → IsTrue false ↔ HasOverdueOn (port_at number) book
none book any_overdue is tells number = ((λ yes. absurd (false≢true yes)), (λ one. absurd (false≢true (sym is ∙ tells.1 (port_at number, one)))))

pub returns-then-not-any_overdue : goal.returns-then-not-any_overdue
returns-then-not-any_overdue c =
    let rests = none c.args.book.now c.args.any_overdue c.if-not-any_overdue.true c.requires in
    of_four (IsTold c.args.book.now) false false false false false (rests 0) (rests 1) (rests 2) (rests 3)

pub returns : goal.returns
returns c = of_four (IsTold c.args.book.now) false c.has_overdue.result c.has_overdue-2.result c.has_overdue-3.result c.has_overdue-4.result c.has_overdue.ensures c.has_overdue-2.ensures c.has_overdue-3.ensures c.has_overdue-4.ensures
