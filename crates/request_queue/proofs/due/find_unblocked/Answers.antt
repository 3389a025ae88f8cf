use Rattle.std.proofs.Common.{◌∙◌, ◌≡◌, ◌≤◌, ◌<◌, ◌&&◌, ◌||◌, ◌==◌, ℕ, suc, Bool, Option, None, Some, true, false, not, cond, is_some, get_or, length, refl, sym, ap, subst, arith, eq-eqb}
use Rattle.std.specs.List.{list_any}
use Rattle.std.proofs.lemmas.Bool.{and_from, ne_eqb, false_from_ne_true, and_parts, both_ways, not-true, false≢true}
use Rattle.std.proofs.lemmas.List.{get_or_default, length-map, length_push}
use Rattle.std.proofs.lemmas.List.Elements.{All-push}
use Rattle.std.proofs.lemmas.Option.{get_or_from_slice_get, slice_get-get_or}
use Rattle.ata_types.specs.declared.request.RequestId.{RequestId}
use Rattle.block_machine.specs.declared.due.Unanswered.{Unanswered}
use Rattle.block_machine.specs.DueRequests.{is_plain}
use Rattle.request_queue.specs.BookEntries.{BookEntry, as_unanswered, unanswered_of}
use Rattle.request_queue.specs.Blockers.{IsBlockerOf, waiting_read_or_write_has_blocker}
use Rattle.request_queue.specs.DueWalk.{is_issued_plain}
use Rattle.request_queue.specs.RequestSlab.{unanswered_at, blank_request}
use Rattle.request_queue.proofs.Holding.{a_holder, no_holder}
use Rattle.request_queue.proofs.Leading.{leads_more}
use Rattle.request_queue.proofs.Own.{one_in, one_out, counted_more, any_more, as_long}
use Rattle.request_queue.proofs.due.find_unblocked.Goals as goal
use Rattle.request_queue.proofs.due.find_unblocked.Goals.{then-is_none+then-asks-port, then-is_none+else-asks-port, else-is_none}

one_at_most : (b : Bool) → cond {A = ℕ} b 1 0 ≤ 1
one_at_most true = omega arith
one_at_most false = omega arith

is_none : (o : Option RequestId) (b : Bool) → is_some o ≡ not b → b ≡ true → o ≡ None
is_none None b e is = refl
is_none (Some id) b e is = absurd (false≢true (sym (e ∙ ap not is)))

is_one : (o : Option RequestId) (b : Bool) → is_some o ≡ not b → b ≡ false → o ≡ None → ⊥
is_one None b e is none = false≢true (e ∙ ap not is)
is_one (Some id) b e is none = cc

pub loop-place-preserved : goal.loop-place-preserved
loop-place-preserved c =
    let es = c.args.store.now in
    let book = unanswered_of es in
    let i = c.loop-place.place in
    let places = c.loop-place.places.items in
    let v = c.loop-place.invariant in
    let p : Unanswered → Bool = λ r. r.port.0 == c.args.port.0 && not (waiting_read_or_write_has_blocker book r) in
    let alone : Unanswered → Bool = is_issued_plain c.args.mode in
    let are = c.requires.blockers in
    let n = are.lengths_are_same in
    let long = length-map es (λ (e : BookEntry). as_unanswered e.request) in
    let end = c.loop-place.auto.place-end in
    let more = c.loop-place-test.true in
    let inside : i < length book = omega (arith, end, more, n) in
    let lt : i < length es = omega (arith, end, more, n, long) in
    let its = get_or_default c.args.blockers.now i None c.index-blockers-place.result (omega (arith, end, more)) ∙ sym c.index-blockers-place.is in
    elim c.if-is_none.branch [
      | then-is_none+then-asks-port w ↦
          let r = w.unanswered-asks.result in
          let one = one_at_most r.issued in
          let free = no_holder book r (get_or c.args.blockers.now i None) (its ∙ is_none _ c.is_none.result c.is_none.ensures w.if-is_none.true)
          (subst (λ (x : Unanswered). IsBlockerOf book x (get_or c.args.blockers.now i None)) (get_or_from_slice_get book i r r w.unanswered-asks.ensures) (are.blocker_of_each i r inside)) in
          let count = counted_more es places i r w.unanswered-asks.ensures (λ (u : Unanswered). u.issued) in
          rw (w.places-is, w.push.ensures.items) (record {
            without_blocker = one_in p es places i r w.unanswered-asks.ensures v.without_blocker (and_from _ _ (eq-eqb r.port.0 c.args.port.0 w.if-asks-port.true) (ap not free));
            within = All-push (λ place. place < length es) places i v.within lt;
            few = rw length_push (omega (arith, v.few));
            counted = omega (arith, w.count-is, v.counted, w.slots_of-slots.ensures, count);
            fits = omega (arith, w.count-is, v.fits, w.slots_of-slots.ensures, one);
            leading = rw w.leading-is (leads_more c.args.mode es places i r w.unanswered-asks.ensures c.loop-place.leading w.leading_after-leading.result v.leading
                (w.leading_after-leading.ensures ∙ ap (λ (before : ℕ). cond (c.loop-place.leading == before && (r.issued && not (is_plain c.args.mode r.op))) (suc c.loop-place.leading) c.loop-place.leading)
                (w.len.ensures.value ∙ sym (as_long es places))));
            alone = w.has_plain-is
                ∙ (ap (λ (b : Bool). b || w.is_issued_plain-issued_alone.result) v.alone
                ∙ (ap (λ (b : Bool). list_any alone (unanswered_at es places) || b) w.is_issued_plain-issued_alone.ensures ∙ sym (any_more es places i r w.unanswered-asks.ensures alone)));
          })
      | then-is_none+else-asks-port w ↦
          let r = w.unanswered-asks.result in
          rw w.places-is (record {
            without_blocker = one_out p es places i r w.unanswered-asks.ensures v.without_blocker (ap (λ (b : Bool). b && not (waiting_read_or_write_has_blocker book r)) (ne_eqb r.port.0 c.args.port.0 w.if-asks-port.false));
            within = v.within;
            few = omega (arith, v.few);
            counted = w.count-is ∙ v.counted;
            fits = omega (arith, w.count-is, v.fits);
            leading = rw w.leading-is v.leading;
            alone = w.has_plain-is ∙ v.alone;
          })
      | else-is_none w ↦
          let r = get_or book i (as_unanswered blank_request) in
          let held = a_holder book r (get_or c.args.blockers.now i None) (λ none. is_one _ c.is_none.result c.is_none.ensures w.if-is_none.false (sym its ∙ none)) (are.blocker_of_each i (as_unanswered blank_request) inside) in
          rw w.places-is (record {
            without_blocker = one_out p es places i r (slice_get-get_or book i (as_unanswered blank_request) inside) v.without_blocker
                (false_from_ne_true _ (λ both. both_ways _ (not-true _ (and_parts (r.port.0 == c.args.port.0) _ both).1) held));
            within = v.within;
            few = omega (arith, v.few);
            counted = w.count-is ∙ v.counted;
            fits = omega (arith, w.count-is, v.fits);
            leading = rw w.leading-is v.leading;
            alone = w.has_plain-is ∙ v.alone;
          })
    ]
