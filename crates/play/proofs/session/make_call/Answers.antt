use Rattle.std.proofs.Common.{◌≡◌, ◌≤◌, ◌∷◌, ◌++◌, [], List, ap, append-nil, arith, length, refl, subst, sym, ◌∙◌}
use Rattle.std.specs.Prelude.{IsOk, OnOk, Ok, Err}
use Rattle.std.specs.List.{flat_map}
use Rattle.std.specs.declared.result.Result.{Result}
use Rattle.ata_types.specs.declared.call.Call.{Call}
use Rattle.ata_types.specs.declared.call.Call.TheVariants.{Submit, ClientStore, ClientLoad, Service, Tick, Reset, Revoke, State, Device as Tell}
use Rattle.adapter.specs.declared.access.DeviceStep.{DeviceStep}
use Rattle.block_machine.specs.Events.{AbstractCallResult}
use Rattle.block_server.specs.Promise.{Simulates}
use Rattle.block_server.specs.Said.{said_of, most_said_of, most_said_of_all}
use Rattle.block_server.specs.declared.said.Said.{Said}
use Rattle.block_server.specs.declared.said.TheConstants.{MOST_SAID}
use Rattle.play.proofs.session.make_call.Goals as goal

on_ok : {T E : Type 0} (r : Result T E) (P : Type 0) → OnOk r P → IsOk r → P
on_ok (Ok x) P given ok = given
on_ok (Err e) P given ok = cc

-- a list of so many items as one has one
sole : {X : Type 0} (items : List X) → length items ≡ 1 → (one : X) × (items ≡ one ∷ [])
sole [] is = absurd (omega (arith, is))
sole (x ∷ []) is = (x, refl)
sole (x ∷ y ∷ items) is = absurd (omega (arith, is))

-- no event says more than there is room for
most_said : (event : Call DeviceStep) → most_said_of event ≤ MOST_SAID
most_said (Submit request) = omega arith
most_said (ClientStore client frame offset bytes) = omega arith
most_said (ClientLoad client frame offset count) = omega arith
most_said Service = omega arith
most_said Tick = omega arith
most_said Reset = omega arith
most_said (Revoke client number) = omega arith
most_said (State port) = omega arith
most_said (Tell step) = omega arith

pub returns-clause-keeps : goal.returns-clause-keeps
returns-clause-keeps g c =
    let device = g.A.Adapter.device in
    let calls = c.from_ref.result.now in
    let few = most_said c.args.call.now in
    let all : most_said_of_all calls ≤ MOST_SAID = subst (λ (some : List (Call DeviceStep)). most_said_of_all some ≤ MOST_SAID) (sym c.from_ref.ensures.value) (omega (arith, few)) in
    let ok : IsOk c.run-done.result = c.run-done.ensures.never_stops_with_room (omega (arith, all, c.requires, c.clear.ensures.len, c.clear.ensures.capacity)) in
    let ran = on_ok c.run-done.result _ c.run-done.ensures.done ok in
    let one = sole ran.results (ran.one_result_an_event ∙ c.from_ref.ensures.len) in
    let Q : List (Call DeviceStep) → List AbstractCallResult → Type 0 = λ calls said. Simulates device c.args.server.now c.run-done.new.self calls said in (
      one.0,
      ran.said_is ∙ ap (λ (before : List Said). before ++ flat_map said_of ran.results) c.clear.ensures.items ∙ ap (flat_map said_of) one.1 ∙ append-nil (said_of one.0),
      subst (λ (calls : List (Call DeviceStep)). Q calls (one.0 ∷ [])) c.from_ref.ensures.value (subst (Q calls) one.1 ran.simulates_calls),
    )

pub returns-clause-room : goal.returns-clause-room
returns-clause-room g c = omega (arith, c.requires, c.clear.ensures.capacity, c.run-done.ensures.capacity_does_not_shrink)
