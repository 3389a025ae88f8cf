use Rattle.std.proofs.Common.{◌≡◌, ◌↔◌, ◌==◌, ◌&&◌, ℕ, Bool, true, sym, ap, ◌∙◌, eqb-true, eq-eqb}
use Rattle.std.proofs.lemmas.Bool.{ne_eqb}
use Rattle.request_queue.proofs.InTheWay.{plain_is_clear, queued_is_clear}
use Rattle.request_queue.proofs.due.is_waiting_and_unblocked.Goals as goal

as_test : (n : ℕ) → ((n == 0) ≡ true) ↔ (n ≡ 0)
as_test n = (eqb-true n 0, eq-eqb n 0)

pub returns-then-issued-eq0 : goal.returns-then-issued-eq0
returns-then-issued-eq0 c = λ requests reached are.
    ap (λ (b : Bool). b && (c.args.number == 0)) (sym (eq-eqb c.args.issued.count 0 c.if-issued-eq0.true))
    ∙ plain_is_clear c.args.mode requests c.args.number c.args.asks.now reached c.args.issued are c.if-asks.false (sym c.is_plain.ensures ∙ c.if-is_plain.true)
    (c.args.issued.count == 0) (c.args.number == 0) (as_test c.args.issued.count) (as_test c.args.number)

pub returns-else-issued-eq0 : goal.returns-else-issued-eq0
returns-else-issued-eq0 c = λ requests reached are.
    let some = ne_eqb c.args.issued.count 0 c.if-issued-eq0.false in
    some ∙ (ap (λ (b : Bool). b && (c.args.number == 0)) (sym some)
    ∙ plain_is_clear c.args.mode requests c.args.number c.args.asks.now reached c.args.issued are c.if-asks.false (sym c.is_plain.ensures ∙ c.if-is_plain.true)
    (c.args.issued.count == 0) (c.args.number == 0) (as_test c.args.issued.count) (as_test c.args.number))

pub returns-else-is_plain : goal.returns-else-is_plain
returns-else-is_plain c = λ requests reached are.
    queued_is_clear c.args.mode requests c.args.number c.args.asks.now reached c.args.issued are c.if-asks.false (sym c.is_plain.ensures ∙ c.if-is_plain.false)
