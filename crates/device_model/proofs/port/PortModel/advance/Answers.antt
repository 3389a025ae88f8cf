use Rattle.std.proofs.Common.{ℕ, List, ◌≡◌, ◌∙◌, ◌+◌, Option, Some, sym, ap}
use Rattle.adapter.specs.Device.{FetchedCommand}
use Rattle.adapter.specs.Memory.{changed}
use Rattle.adapter.specs.Steps.{block_after, snapshot_of_bytes}
use Rattle.device_model.proofs.Absurd.{some_one, true-false}
use Rattle.device_model.specs.TakenBlocks.{brought}
use Rattle.device_model.specs.PortView.{taken_in, media_after_move, port_of, taken_commands_by_slot, taken_of}
use Rattle.device_model.specs.declared.port.TakenCommand.{TakenCommand}
use Rattle.adapter.specs.declared.command.Operation.{Operation}
use Rattle.adapter.specs.declared.command.Operation.TheVariants.{Trim}
use Rattle.device_model.proofs.Places.{changed_same}
use Rattle.device_model.proofs.SlotLemmas.{slots_changed}
use Rattle.device_model.proofs.Transfers.{no_block}
use Rattle.device_model.proofs.port.PortModel.advance.Goals as goal

-- the command is of this kind
same_kind : (o : Option TakenCommand) (u t : TakenCommand) (k : Operation) → o ≡ Some u → u.operation ≡ k → o ≡ Some t → t.operation ≡ k
same_kind o u t k there kind here = ap (λ (x : TakenCommand). x.operation) (some_one (sym here ∙ there)) ∙ kind

-- a trim keeps its block
pub returns-then-is_trim-clause-moved : goal.returns-then-is_trim-clause-moved
returns-then-is_trim-clause-moved c = λ m t held.
    let was : ℕ → Option TakenCommand = taken_in c.args.self.now.taken in
    let slot : ℕ = c.args.slot in
    let bytes : List ℕ = c.args.bytes.now in
    let u : TakenCommand = record t { moved = t.moved + 1; block = Some (snapshot_of_bytes bytes) } in
    let kind : t.operation ≡ Trim =
    same_kind (was slot) c.requires.slot_has_command.0 t c.args.operation c.requires.slot_has_command.1 c.requires.slot_has_command.2 held ∙ c.is_trim.ensures.0 c.if-is_trim.true in
    let kept : block_after t.operation bytes (brought t.block) ≡ bytes = ap (λ (k : Operation). block_after k bytes (brought t.block)) kind in
    ap (λ (f : ℕ → Option FetchedCommand). record (port_of c.args.self.now (media_after_move m (taken_of t) bytes)) { taken = f })
    (ap taken_commands_by_slot (c.add_block.ensures t held)
    ∙ (slots_changed was slot (Some u)
    ∙ ap (λ (b : List ℕ). changed (taken_commands_by_slot was) slot (Some (record (taken_of t) { moved = t.moved + 1; block = b }))) (sym kept)))

-- no other command has one
pub returns-else-is_trim-clause-moved : goal.returns-else-is_trim-clause-moved
returns-else-is_trim-clause-moved c = λ m t held.
    let was : ℕ → Option TakenCommand = taken_in c.args.self.now.taken in
    let slot : ℕ = c.args.slot in
    let bytes : List ℕ = c.args.bytes.now in
    let kind = same_kind (was slot) c.requires.slot_has_command.0 t c.args.operation c.requires.slot_has_command.1 c.requires.slot_has_command.2 held in
    let other : t.operation ≡ Trim → ⊥ = λ (trim : t.operation ≡ Trim). true-false (c.is_trim.ensures.1 (sym kind ∙ trim)) c.if-is_trim.false in
    ap (λ (f : ℕ → Option FetchedCommand). record (port_of c.args.self.now (media_after_move m (taken_of t) bytes)) { taken = f })
    (ap taken_commands_by_slot (c.add_moved.ensures t held)
    ∙ (slots_changed was slot (Some (record t { moved = t.moved + 1 }))
    ∙ ap (λ (b : List ℕ). changed (taken_commands_by_slot was) slot (Some (record (taken_of t) { moved = t.moved + 1; block = b })))
    (sym (no_block t.operation bytes (brought t.block) other))))

pub returns-then-is_trim-clause-held : goal.returns-then-is_trim-clause-held
returns-then-is_trim-clause-held c = λ t held no_trim. absurd (no_trim (c.is_trim.ensures.0 c.if-is_trim.true))

pub returns-else-is_trim-clause-held : goal.returns-else-is_trim-clause-held
returns-else-is_trim-clause-held c = λ t held _.
    ap (λ (f : ℕ → Option TakenCommand). f c.args.slot) (c.add_moved.ensures t held)
    ∙ changed_same (taken_in c.args.self.now.taken) c.args.slot (Some (record t { moved = t.moved + 1 }))
