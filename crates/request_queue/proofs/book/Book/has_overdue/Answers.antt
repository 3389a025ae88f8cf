use Rattle.std.proofs.Common.{ℕ, ◌≡◌, ◌<◌, ◌≤◌, ◌∙◌, List, [], Some, map, get_or, refl, sym, subst, arith, ⊎_elim}
use Rattle.std.specs.List.{slice_get}
use Rattle.std.proofs.lemmas.Bool.{cases_lt, false≢true}
use Rattle.std.proofs.lemmas.List.{get_or_default}
use Rattle.request_queue.specs.BookEntries.{BookEntry, IsOverdueOn}
use Rattle.request_queue.proofs.Changing.{request_is, place_within}
use Rattle.request_queue.proofs.book.Book.has_overdue.Goals as goal

pub returns-then-is_overdue : goal.returns-then-is_overdue
returns-then-is_overdue c =
    let es = c.args.self.now in
    let i = c.loop-place.place in
    let r = c.request.result in
    let d : BookEntry = record { request = r; frames = [] } in
    let here = subst (λ (xs : List BookEntry). slice_get (map (λ (e : BookEntry). e.request) xs) i ≡ Some r) c.self.view_is c.request.ensures in
    (λ yes. (get_or es i d, (i, place_within es i r here, get_or_default es i (get_or es i d) d (place_within es i r here)), subst (IsOverdueOn c.args.port) (sym (request_is es i r d here)) (c.is_overdue.ensures.0 c.if-is_overdue.true)), λ some. refl)

pub loop-place-preserved : goal.loop-place-preserved
loop-place-preserved c = λ k d lt overdue.
    let es = c.args.self.now in
    let i = c.loop-place.place in
    let r = c.request.result in
    let here = subst (λ (xs : List BookEntry). slice_get (map (λ (e : BookEntry). e.request) xs) i ≡ Some r) c.self.view_is c.request.ensures in
    ⊎_elim
    (λ (less : k < i). c.loop-place.invariant k d less overdue)
    (λ (most : i ≤ k).
    let same : i ≡ k = omega (arith, lt, most) in
    let now = subst (λ (n : ℕ). IsOverdueOn c.args.port (get_or es n d).request) (sym same) overdue in
    false≢true (sym c.if-is_overdue.false ∙ c.is_overdue.ensures.1 (subst (IsOverdueOn c.args.port) (request_is es i r d here) now)))
    (cases_lt k i)
