use Rattle.std.proofs.Common.{◌≡◌, ◌∙◌, ◌≤◌, ◌<◌, ◌+◌, ◌-◌, ◌&&◌, ◌||◌, ℕ, Bool, true, false, Some, get_or, List, length, map, refl, sym, ap, arith, inl, inr}
use Rattle.std.specs.Prelude.{nat_lt}
use Rattle.std.proofs.lemmas.Bool.{cases_eq}
use Rattle.std.proofs.lemmas.Option.{get_or_from_slice_get}
use Rattle.block_machine.specs.declared.due.QueueMode.{QueueMode}
use Rattle.block_machine.specs.DueRequests.{is_plain}
use Rattle.std.specs.List.{filter, slice_get}
use Rattle.std.proofs.lemmas.List.{take_all}
use Rattle.block_machine.specs.declared.due.Unanswered.{Unanswered}
use Rattle.request_queue.specs.BookEntries.{unanswered_of}
use Rattle.request_queue.specs.RequestSlab.{unanswered_at}
use Rattle.request_queue.proofs.Leading.{none_ahead}
use Rattle.request_queue.proofs.Own.{unheld_in_order, reached, own_at, own_free, own_due, as_long}
use Rattle.request_queue.proofs.Walk.{due_test, steps_on, has_all, has_room}
use Rattle.request_queue.proofs.due.list_due.Goals as goal
use Rattle.request_queue.proofs.due.list_due.Goals.{then-goes, else-goes}

-- a test that fails, and so do its parts
or_false : (a b : Bool) → (a || b) ≡ false → a ≡ false
or_false false b e = refl
or_false true b e = e

queued_more : (mode : QueueMode) (book : List Unanswered) (i : ℕ) (r : Unanswered) → slice_get book i ≡ Some r → is_plain mode r.op ≡ false
    → ((k : ℕ) (d : Unanswered) → k < i → is_plain mode (get_or book k d).op ≡ false) → (k : ℕ) (d : Unanswered) → k < i + 1 → is_plain mode (get_or book k d).op ≡ false
queued_more mode book i r at here before k d lt = elim (cases_eq k i) [
  | inl e ↦ ap (λ (n : ℕ). is_plain mode (get_or book n d).op) e ∙ (ap (λ (u : Unanswered). is_plain mode u.op) (get_or_from_slice_get book i r d at) ∙ here)
  | inr ne ↦ before k d (omega arith)
]

pub returns-then-ends : goal.returns-then-ends
returns-then-ends c =
    let all = unanswered_of c.args.store.now in
    let book = unanswered_at c.args.store.now c.find_unblocked-issued.new.places.items in
    let is = c.find_unblocked-issued.ensures.without_blocker in
    let ordered = unheld_in_order c.args.port all book is c.requires.ordered in
    let mine = own_at c.args.port all book is c.loop-number.number c.nth-asks.result c.nth-asks.ensures in
    let clear = c.is_waiting_and_unblocked-clear.ensures book (reached c.args.port all book is c.requires.ordered c.args.mode c.loop-number.number c.nth-asks.result c.nth-asks.ensures c.loop-number.invariant.queued) c.find_unblocked-issued.ensures.issued in
    let free = own_free c.args.port all book is c.args.mode c.free_slots-free.result (c.free_slots-free.ensures ∙ ap (λ (n : ℕ). c.args.mode.usable_slots - n) c.find_unblocked-issued.ensures.issued.0) in
    let so_far =
    steps_on c.law_earlier_ones_stand_before.ensures c.law_counts_ahead_agree_on_slot_left.ensures c.args.mode c.args.port book ordered c.loop-number.number c.nth-asks.result c.nth-asks.ensures mine
    c.loop-number.due.items c.loop-number.invariant.so_far c.len.result c.free_slots-free.result c.len.ensures.value free c.if-goes.due.items c.goes.result (c.goes.ensures ∙ ap (λ (b : Bool). b && (is_plain c.args.mode c.nth-asks.result.op || nat_lt c.len.result c.free_slots-free.result)) clear)
    (elim c.if-goes.branch [ then-goes w ↦ rw (w.due-is, w.push.ensures.items, w.if-goes.true) refl | else-goes w ↦ rw (w.due-is, w.if-goes.false) refl ]) in
    own_due c.args.port all book is c.args.mode c.if-goes.due.items
    (has_all c.law_earlier_ones_stand_before.ensures c.law_counts_ahead_agree_on_slot_left.ensures c.args.mode c.args.port book ordered c.loop-number.number c.nth-asks.result c.nth-asks.ensures mine
    c.if-goes.due.items so_far c.len-in-loop-number.result c.free_slots-free.result c.len-in-loop-number.ensures.value free (sym c.ends.ensures ∙ c.if-ends.true))

pub loop-number-init : goal.loop-number-init
loop-number-init c =
    let book = unanswered_at c.args.store.now c.find_unblocked-issued.new.places.items in
    let ahead = c.find_unblocked-issued.ensures.leading in
    record {
      so_far = c.requires.due_is_empty ∙ sym (none_ahead c.args.mode c.args.port book c.find_unblocked-issued.result.leading ahead);
      few = rw c.requires.due_is_empty (omega arith);
      queued = ahead.leading_are_queued;
    }

pub loop-number-preserved : goal.loop-number-preserved
loop-number-preserved c =
    let all = unanswered_of c.args.store.now in
    let book = unanswered_at c.args.store.now c.find_unblocked-issued.new.places.items in
    let is = c.find_unblocked-issued.ensures.without_blocker in
    let ordered = unheld_in_order c.args.port all book is c.requires.ordered in
    let mine = own_at c.args.port all book is c.loop-number.number c.nth-asks.result c.nth-asks.ensures in
    let clear = c.is_waiting_and_unblocked-clear.ensures book (reached c.args.port all book is c.requires.ordered c.args.mode c.loop-number.number c.nth-asks.result c.nth-asks.ensures c.loop-number.invariant.queued) c.find_unblocked-issued.ensures.issued in
    let free = own_free c.args.port all book is c.args.mode c.free_slots-free.result (c.free_slots-free.ensures ∙ ap (λ (n : ℕ). c.args.mode.usable_slots - n) c.find_unblocked-issued.ensures.issued.0) in
    let small = has_room c.args.mode c.args.port book c.nth-asks.result c.len-in-loop-number.result c.free_slots-free.result free c.requires.usable_slots_are_at_most_32 (sym c.ends.ensures ∙ c.if-ends.false) in
    record {
      so_far = steps_on c.law_earlier_ones_stand_before.ensures c.law_counts_ahead_agree_on_slot_left.ensures c.args.mode c.args.port book ordered c.loop-number.number c.nth-asks.result c.nth-asks.ensures mine
          c.loop-number.due.items c.loop-number.invariant.so_far c.len.result c.free_slots-free.result c.len.ensures.value free c.if-goes.due.items c.goes.result (c.goes.ensures ∙ ap (λ (b : Bool). b && (is_plain c.args.mode c.nth-asks.result.op || nat_lt c.len.result c.free_slots-free.result)) clear)
          (elim c.if-goes.branch [ then-goes w ↦ rw (w.due-is, w.push.ensures.items, w.if-goes.true) refl | else-goes w ↦ rw (w.due-is, w.if-goes.false) refl ]);
      few = omega (arith, small, c.len-in-loop-number.ensures.value);
      queued = queued_more c.args.mode book c.loop-number.number c.nth-asks.result c.nth-asks.ensures (or_false (is_plain c.args.mode c.nth-asks.result.op) _ (sym c.ends.ensures ∙ c.if-ends.false)) c.loop-number.invariant.queued;
    }

pub returns : goal.returns
returns c =
    let all = unanswered_of c.args.store.now in
    let book = unanswered_at c.args.store.now c.find_unblocked-issued.new.places.items in
    let long : length book ≤ c.loop-number.number = omega (arith, as_long c.args.store.now c.find_unblocked-issued.new.places.items, c.loop-number-test.false, c.len-number-end.ensures.value) in
    own_due c.args.port all book c.find_unblocked-issued.ensures.without_blocker c.args.mode c.loop-number.due.items
    (c.loop-number.invariant.so_far
    ∙ ap (λ (rs : List Unanswered). map (λ (r : Unanswered). r.id) (filter (due_test c.args.mode c.args.port book) rs)) (take_all c.loop-number.number book long))
