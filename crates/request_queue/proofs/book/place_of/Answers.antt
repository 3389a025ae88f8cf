use Rattle.std.proofs.Common.{List, Some, length, map, ◌≢◌, ℕ, ◌≡◌, ◌<◌, ◌≤◌, ◌+◌, ◌-◌, ◌/◌, [], get_or, ap, subst, ◌∙◌, arith, ⊎_elim}
use Rattle.std.proofs.lemmas.Bool.{cases_eq, cases_lt}
use Rattle.std.proofs.lemmas.List.{get_or_default}
use Rattle.std.proofs.lemmas.Option.{slice_get-get_or}
use Rattle.std.specs.List.{AllPairs, slice_get}
use Rattle.ata_types.specs.declared.request.RequestId.{RequestId}
use Rattle.request_queue.specs.BookEntries.{BookEntry, IsEarlier}
use Rattle.request_queue.specs.declared.PendingRequest.{PendingRequest}
use Rattle.request_queue.proofs.Changing.{request_is}
use Rattle.request_queue.proofs.book.place_of.Goals as goal

-- where the last one has no later id, it has this one
last_is : (es : List BookEntry) (last : ℕ) (r : PendingRequest) (id : RequestId) → AllPairs IsEarlier es → last + 1 ≡ length es → slice_get (map (λ (e : BookEntry). e.request) es) last ≡ Some r
    → (k : ℕ) (d : BookEntry) → k < length es → (get_or es k d).request.id.0 ≡ id.0 → r.id.0 ≤ id.0 → k ≡ last
last_is es last r id ordered long is k d lt its low = ⊎_elim
    (λ same. same)
    (λ (other : k ≢ last).
    let rise = ordered k last d (omega (arith, lt, long, other)) (omega (arith, long)) in
    let at = ap (λ (x : PendingRequest). x.id.0) (request_is es last r d is) in
    absurd (omega (arith, rise, at, its, low)))
    (cases_eq k last)

-- its id, whatever stands where nothing is
its : (es : List BookEntry) (e : BookEntry) (id : RequestId) (k : ℕ) → k < length es → get_or es k e ≡ e → e.request.id ≡ id → (d : BookEntry) → (get_or es k d).request.id.0 ≡ id.0
its es e id k lt here named d = ap (λ (x : BookEntry). x.request.id.0) (get_or_default es k d e lt ∙ here) ∙ ap (λ (i : RequestId). i.0) named

pub loop-past-init : goal.loop-past-init
loop-past-init c =
    let e = c.requires.unanswered in
    let long = c.len-last.ensures in
    let here = e.1.1 in
    let last = c.len-last.result - 1 in
    let id = its c.args.store.now e.0 c.args.id e.1.0 e.1.1 e.1.2 e.2 in
    let before : e.1.0 < last = ⊎_elim
    (λ (same : e.1.0 ≡ last).
    let at = ap (λ (x : PendingRequest). x.id.0) (request_is c.args.store.now last c.request.result e.0 c.request.ensures) in
    let mine = ap (λ (n : ℕ). (get_or c.args.store.now n e.0).request.id.0) same in
    let i = id e.0 in
    let high = c.if-request-id.false in absurd (omega (arith, at, mine, i, high)))
    (λ (other : e.1.0 ≢ last). omega (arith, here, long, other))
    (cases_eq e.1.0 last) in
    record {
      within = omega (arith, long);
      place = (e.1.0, omega arith, before, id);
    }

pub returns-then-request-id : goal.returns-then-request-id
returns-then-request-id c =
    let e = c.requires.unanswered in
    let es = c.args.store.now in
    let long = c.len-last.ensures in
    let here = e.1.1 in
    let last = c.len-last.result - 1 in
    let is : e.1.0 ≡ last = last_is es last c.request.result c.args.id c.requires.ordered (omega (arith, long, here)) c.request.ensures e.1.0 e.0 e.1.1 (its es e.0 c.args.id e.1.0 e.1.1 e.1.2 e.2 e.0) c.if-request-id.true in (
      e.0,
      subst (λ (n : ℕ). slice_get es n ≡ Some e.0) is (slice_get-get_or es e.1.0 e.0 e.1.1 ∙ ap (λ (x : BookEntry). Some x) e.1.2),
      e.2,
    )

pub loop-past-preserved-then-request-id-2 : goal.loop-past-preserved-then-request-id-2
loop-past-preserved-then-request-id-2 c = record {
  within = c.loop-past.invariant.within;
  place = (k, not_before, x.2, x.3);
}
  where
    x : (k : ℕ) × (c.loop-past.first ≤ k) × (k < c.loop-past.past) × ((d : BookEntry) → (get_or c.args.store.now k d).request.id.0 ≡ c.args.id.0)
    x = c.loop-past.invariant.place

    k : ℕ
    k = x.0

    middle : ℕ
    middle = c.loop-past.first + (c.loop-past.past - c.loop-past.first) / 2

    d : BookEntry
    d = record { request = c.request-in-loop-past.result; frames = [] }

    here : (get_or c.args.store.now middle d).request.id.0 ≤ c.args.id.0
    here =
        let same = ap (λ (r : PendingRequest). r.id.0) (request_is c.args.store.now middle c.request-in-loop-past.result d c.request-in-loop-past.ensures) in
        let low = c.if-request-id-2.true in omega (arith, same, low)

    -- one before the middle has a lower id than it
    not_before : middle ≤ k
    not_before = ⊎_elim
        (λ (less : k < middle).
        let small = c.loop-past.invariant.within in let long = c.loop-past-test.true in
        let rise = c.requires.ordered k middle d less (omega (arith, small, long)) in
        let its = x.3 d in
        let h = here in absurd (omega (arith, rise, its, h)))
        (λ most. most)
        (cases_lt k middle)

pub loop-past-preserved : goal.loop-past-preserved
loop-past-preserved c = record {
  within = let small = c.loop-past.invariant.within in let long = c.loop-past-test.true in omega (arith, small, long);
  place = (k, x.1, before, x.3);
}
  where
    x : (k : ℕ) × (c.loop-past.first ≤ k) × (k < c.loop-past.past) × ((d : BookEntry) → (get_or c.args.store.now k d).request.id.0 ≡ c.args.id.0)
    x = c.loop-past.invariant.place

    k : ℕ
    k = x.0

    middle : ℕ
    middle = c.loop-past.first + (c.loop-past.past - c.loop-past.first) / 2

    d : BookEntry
    d = record { request = c.request-in-loop-past.result; frames = [] }

    high : c.args.id.0 < (get_or c.args.store.now middle d).request.id.0
    high =
        let same = ap (λ (r : PendingRequest). r.id.0) (request_is c.args.store.now middle c.request-in-loop-past.result d c.request-in-loop-past.ensures) in
        let more = c.if-request-id-2.false in omega (arith, same, more)

    -- one from the middle on has no lower id than it
    before : k < middle
    before = ⊎_elim
        (λ (less : k < middle). less)
        (λ (most : middle ≤ k). let h = high in let its = x.3 d in ⊎_elim
        (λ (same : middle ≡ k). let at = ap (λ (i : ℕ). (get_or c.args.store.now i d).request.id.0) same in absurd (omega (arith, at, h, its)))
        (λ other.
        let small = c.loop-past.invariant.within in let lt = x.2 in
        let rise = c.requires.ordered middle k d (omega (arith, most, other)) (omega (arith, small, lt)) in absurd (omega (arith, rise, h, its)))
        (cases_eq middle k))
        (cases_lt k middle)

pub returns : goal.returns
returns c =
    let x = c.loop-past.invariant.place in
    let d = c.requires.unanswered.0 in
    let within = c.loop-past.invariant.within in
    let close = c.loop-past-test.false in
    let low = x.1 in
    let lt = x.2 in
    let at : c.loop-past.first ≡ x.0 = omega (arith, low, lt, close) in (
      get_or c.args.store.now c.loop-past.first d,
      slice_get-get_or c.args.store.now c.loop-past.first d (omega (arith, low, lt, within)),
      ap (λ (n : ℕ). record { 0 = n }) (ap (λ (i : ℕ). (get_or c.args.store.now i d).request.id.0) at ∙ x.3 d),
    )
