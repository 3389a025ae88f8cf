use Rattle.std.proofs.Common.{rules, arith, ℕ, ◌≡◌, ◌<◌, ◌∙◌, Some, true, length, ap, sym, refl}
use Rattle.std.specs.Prelude.{slice_index_or}
use Rattle.hba_regs.specs.Bits.{bit}
use Rattle.device_model.proofs.Absurd.{some-none, some_one, true-false}
use Rattle.device_model.proofs.SlotLemmas.{held_none, held_room, held_within}
use Rattle.device_model.specs.TakenBlocks.{taken_in_slot}
use Rattle.device_model.specs.declared.port.TakenCommand.{TakenCommand}
use Rattle.std.proofs.lemmas.Bool.{cases_lt}
use Rattle.adapter.specs.Commands.{is_queued}
use Rattle.std.proofs.Common.{inl, inr}
use Rattle.device_model.proofs.taken.hold_queued.Goals as goal
use Rattle.device_model.proofs.taken.hold_queued.Goals.{else-is_set-via-then-is_set+else-not-is_queued, else-is_set-via-else-is_set}

pub returns-then-not-is_queued : goal.returns-then-not-is_queued
returns-then-not-is_queued c =
    let rooms = c.args.rooms.now in
    let t : TakenCommand = slice_index_or rooms c.loop-slot.slot c.index-rooms-slot.result in
    let small : c.loop-slot.slot < length rooms = search rules in
    let set : bit c.args.filled c.loop-slot.slot ≡ true = sym c.is_set.ensures ∙ c.if-is_set.true in
    let there = held_room c.args.filled rooms c.loop-slot.slot c.index-rooms-slot.result small set in (
      λ never. true-false never refl,
      λ all. true-false (all c.loop-slot.slot t there) (sym c.is_queued.ensures ∙ c.if-not-is_queued.true),
    )

pub loop-slot-preserved : goal.loop-slot-preserved
loop-slot-preserved c = λ k few t held.
    let rooms = c.args.rooms.now in
    let slot : ℕ = c.loop-slot.slot in
    elim (cases_lt k slot) [
      | inl low ↦ c.loop-slot.invariant k low t held
      | inr high ↦
          let here : k ≡ slot = omega (arith, few, high) in
          let is : taken_in_slot c.args.filled rooms slot ≡ Some t = ap (taken_in_slot c.args.filled rooms) (sym here) ∙ held in
          elim c.else-is_set.branch [
            | else-is_set-via-then-is_set+else-not-is_queued w ↦
                let u : TakenCommand = slice_index_or rooms slot w.index-rooms-slot.result in
                let small : slot < length rooms = search rules in
                let set : bit c.args.filled slot ≡ true = sym c.is_set.ensures ∙ w.if-is_set.true in
                let there = held_room c.args.filled rooms slot w.index-rooms-slot.result small set in
                let one : u ≡ t = some_one (sym there ∙ is) in
                ap (λ (x : TakenCommand). is_queued x.operation) (sym one) ∙ (sym w.is_queued.ensures ∙ w.if-not-is_queued.false)
            | else-is_set-via-else-is_set w ↦ some-none is (held_none c.args.filled rooms slot (sym c.is_set.ensures ∙ w.if-is_set.false))
          ]
    ]

pub returns : goal.returns
returns c = (
  λ _ slot t held.
      let within = held_within c.args.filled c.args.rooms.now slot t held in
      let long = c.requires in
      let over = c.loop-slot-test.false in
      c.loop-slot.invariant slot (omega (arith, within, long, over)) t held,
  λ _. refl,
)
