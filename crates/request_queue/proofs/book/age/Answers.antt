use Rattle.std.proofs.Common.{ℕ, ◌≡◌, ◌<◌, ◌∙◌, Some, [], Bool, List, Option, None, not, false, is_some, get_or, length, sym, ap, arith}
use Rattle.std.proofs.lemmas.Bool.{and_parts, not-true, false≢true}
use Rattle.std.proofs.lemmas.List.{length-map, get_or-map, get_or_default}
use Rattle.ata_types.specs.declared.request.RequestId.{RequestId}
use Rattle.block_machine.specs.declared.due.Unanswered.{Unanswered}
use Rattle.request_queue.specs.BookEntries.{BookEntry, as_unanswered, unanswered_of, is_among, aged_request}
use Rattle.request_queue.specs.Blockers.{IsBlockerOf, is_waiting_read_or_write}
use Rattle.request_queue.specs.RequestSlab.{blank_request}
use Rattle.request_queue.proofs.Aging as aging
use Rattle.request_queue.proofs.Changing.{all_are_changed, keeps_its_id, next_changed, older_spares, request_is}
use Rattle.request_queue.proofs.Holding.{a_holder}
use Rattle.request_queue.proofs.book.age.Goals as goal
use Rattle.request_queue.proofs.book.age.Goals.{then-is_none+then-request, then-is_none+else-request, else-is_none}

is_one : (o : Option RequestId) (b : Bool) → is_some o ≡ not b → b ≡ false → o ≡ None → ⊥
is_one None b e is none = false≢true (e ∙ ap not is)
is_one (Some id) b e is none = cc

-- one with a blocker waits
held_waits : (es : List BookEntry) (i : ℕ) (h : Option RequestId) → i < length es → (h ≡ None → ⊥) → ((d : Unanswered) → IsBlockerOf (unanswered_of es) (get_or (unanswered_of es) i d) h) → (d : BookEntry) → (get_or es i d).request.issued ≡ false
held_waits es i h lt some its d =
    let r = get_or (unanswered_of es) i (as_unanswered d.request) in
    let held = a_holder (unanswered_of es) r h some (its (as_unanswered d.request)) in
    let waits = not-true r.issued (and_parts (not r.issued) _ (and_parts (is_waiting_read_or_write r) _ held).0).0 in
    sym (ap (λ (u : Unanswered). u.issued) (get_or-map (λ (e : BookEntry). as_unanswered e.request) es i d (as_unanswered d.request) lt)) ∙ waits

pub replace-requires-clause-same_id : goal.replace-requires-clause-same_id
replace-requires-clause-same_id c =
    keeps_its_id (aged_request (is_among c.args.ports.now)) (older_spares (is_among c.args.ports.now)) c.loop-place.store c.loop-place.place c.request-request.result _ c.request-request.ensures c.aged_request-grown.ensures

pub loop-place-preserved : goal.loop-place-preserved
loop-place-preserved c =
    let ports = is_among c.args.ports.now in
    let old = c.args.store.now in
    let now = c.loop-place.store in
    let i = c.loop-place.place in
    let v = c.loop-place.invariant in
    let are = c.requires.blockers in
    let n = are.lengths_are_same in
    let long = length-map old (λ (e : BookEntry). as_unanswered e.request) in
    let end = c.loop-place.auto.place-end in
    let more = c.loop-place-test.true in
    let inside : i < length (unanswered_of old) = omega (arith, end, more, n) in
    let lt : i < length old = omega (arith, end, more, n, long) in
    let its = get_or_default c.args.blockers.now i None c.index-blockers-place.result (omega (arith, end, more)) ∙ sym c.index-blockers-place.is in
    elim c.if-is_none.branch [
      | then-is_none+then-request w ↦
          let r = w.request-request.result in
          let d : BookEntry = record { request = r; frames = [] } in
          let its = sym (ap (λ (e : BookEntry). e.request) (v.changed.rest i d (omega arith))) ∙ request_is now i r d w.request-request.ensures in
          record {
            changed = rw w.store-is (next_changed (aged_request ports) old now _ i r _ v.changed w.request-request.ensures w.aged_request-grown.ensures w.replace.ensures);
            overdue = w.overdue-is ∙ aging.issued_more ports old now i c.loop-place.overdue lt v.changed v.overdue d r w.aged_request-grown.result its w.if-request.true w.aged_request-grown.ensures;
          }
      | then-is_none+else-request w ↦
          let r = w.request-request.result in
          let d : BookEntry = record { request = r; frames = [] } in
          let its : (x : BookEntry) → (get_or old i x).request ≡ r = λ x. sym (ap (λ (e : BookEntry). e.request) (v.changed.rest i x (omega arith))) ∙ request_is now i r x w.request-request.ensures in
          let waits : (x : BookEntry) → (get_or old i x).request.issued ≡ false = λ x. ap (λ e. e.issued) (its x) ∙ w.if-request.false in
          let both = aging.waiting_more ports old now i c.loop-place.overdue lt v.changed v.overdue d (waits d) waits in
          record { changed = rw w.store-is both.0; overdue = w.overdue-is ∙ both.1 }
      | else-is_none w ↦
          let d : BookEntry = record { request = blank_request; frames = [] } in
          let waits = held_waits old i (get_or c.args.blockers.now i None) lt (λ none. is_one _ c.is_none.result c.is_none.ensures w.if-is_none.false (sym its ∙ none)) (λ x. are.blocker_of_each i x inside) in
          let both = aging.waiting_more ports old now i c.loop-place.overdue lt v.changed v.overdue d (waits d) waits in
          record { changed = rw w.store-is both.0; overdue = w.overdue-is ∙ both.1 }
    ]

pub returns-clause-aged_request : goal.returns-clause-aged_request
returns-clause-aged_request c =
    let n = c.requires.blockers.lengths_are_same in
    let long = length-map c.args.store.now (λ (e : BookEntry). as_unanswered e.request) in
    let low = c.loop-place-test.false in
    all_are_changed (aged_request (is_among c.args.ports.now)) c.args.store.now c.loop-place.store c.loop-place.place (omega (arith, n, long, low)) c.loop-place.invariant.changed

pub returns-clause-overdue : goal.returns-clause-overdue
returns-clause-overdue c =
    let n = c.requires.blockers.lengths_are_same in
    let long = length-map c.args.store.now (λ (e : BookEntry). as_unanswered e.request) in
    let low = c.loop-place-test.false in
    aging.all_aged (is_among c.args.ports.now) c.args.store.now c.loop-place.store c.loop-place.place c.loop-place.overdue (omega (arith, n, long, low)) c.loop-place.invariant.changed c.loop-place.invariant.overdue
