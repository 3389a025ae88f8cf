use Rattle.std.proofs.Common.{◌++◌, List, [], ◌∷◌, sym, subst, arith, eq-eqb}
use Rattle.std.specs.Int.{bit_at}
use Rattle.ata_types.specs.declared.request.Reply.{Reply}
use Rattle.port_driver.specs.LentSlots.{with_answers}
use Rattle.server_history.specs.ServerState.{ServerState}
use Rattle.port_driver.proofs.Finishing as finishing
use Rattle.port_driver.proofs.Finishing.{AnswersSome}
use Rattle.port_driver.proofs.answering.answer_done.Goals as goal

pub loop-slot-init : goal.loop-slot-init
loop-slot-init c = record {
  answers = λ s port l. finishing.none_answered s c.args.table.now c.args.book.now c.args.slots.now port c.args.done l c.args.replies.now.items;
  room = c.requires.replies_have_room;
}

pub answer_one-requires-clause-lends : goal.answer_one-requires-clause-lends
answer_one-requires-clause-lends c =
    let l = c.requires.server_has_port in
    let now = with_answers l.0 c.loop-slot.table c.loop-slot.book c.loop-slot.slots l.1 in
    (now, l.1, c.args.done, (c.loop-slot.invariant.answers l.0 l.1 l.2).lends, eq-eqb (bit_at c.args.done c.in-Some.slot.0) 1 c.in-Some.ensures.found.mask_has_slot)

pub loop-slot-preserved : goal.loop-slot-preserved
loop-slot-preserved c = record {
  answers = λ s port l.
      let then = c.answer_one.new in
      let before = c.args.replies.now.items in
      let now = with_answers s c.loop-slot.table c.loop-slot.book c.loop-slot.slots port in
      let some = c.loop-slot.invariant.answers s port l in
      let answers = c.answer_one.ensures.answers now port c.args.done some.lends in
      let more = finishing.one_more c.law_a_used_slot_has_its_request.ensures c.law_requests_preserve_invariant.ensures.answered c.law_operations_change_one_request.ensures.answered port c.args.done
      before c.loop-slot.replies.items s now c.loop-slot.table c.loop-slot.book c.loop-slot.slots some c.in-Some.slot.0 c.in-Some.ensures.found
      c.answer_one.result then.table then.book then.slots answers c.answer_one.ensures.freed in
      let R : List Reply → Type 0 = λ after. AnswersSome port c.args.done before after s (with_answers s then.table then.book then.slots port) then.table then.book then.slots in
      let S : ServerState → Type 0 = λ x. AnswersSome port c.args.done before (c.loop-slot.replies.items ++ c.answer_one.result ∷ []) s x then.table then.book then.slots in
      subst R (sym c.push.ensures.items)
      (subst S (finishing.answers_again s c.args.table.now c.args.book.now c.args.slots.now port c.args.done l c.loop-slot.table c.loop-slot.book c.loop-slot.slots then.table then.book then.slots) more);
  room = let f = c.answer_one.ensures.fewer in let n = c.push.ensures.len in let r = c.loop-slot.invariant.room in omega (arith, f, n, r);
}

pub returns-clause-answers : goal.returns-clause-answers
returns-clause-answers c = λ s port l.
    finishing.all_answered port c.args.done c.args.replies.now.items c.loop-slot.replies.items s (with_answers s c.loop-slot.table c.loop-slot.book c.loop-slot.slots port)
    c.loop-slot.table c.loop-slot.book c.loop-slot.slots (c.loop-slot.invariant.answers s port l) c.in_default.ensures.no_such_slot

pub returns-clause-lends : goal.returns-clause-lends
returns-clause-lends c = λ s port l. (c.loop-slot.invariant.answers s port l).lends
