use Rattle.std.proofs.Common.{rules, ℕ, ◌+◌, List, [], ◌∷◌, ◌++◌, ◌∙◌, ◌≡◌, ◌<◌, Some, sym, ap, subst, length, refl}
use Rattle.std.specs.Prelude.{slice_index_or, slice_set}
use Rattle.std.proofs.lemmas.Option.{IfSome_then}
use Rattle.adapter.specs.Commands.{moves_disk_sectors}
use Rattle.adapter.specs.Memory.{bytes_at}
use Rattle.adapter.specs.declared.tape.Entry.TheVariants as entry
use Rattle.device_model.specs.PieceTransfers.{piece_in_memory}
use Rattle.device_model.specs.FetchedBytes.{bytes_of}
use Rattle.device_model.specs.Slots.{IsNextMove}
use Rattle.device_model.specs.PortView.{reset_port_without_disk, taken_in}
use Rattle.device_model.specs.declared.hardware.Hardware.{Hardware}
use Rattle.device_model.specs.declared.port.TakenCommand.{TakenCommand}
use Rattle.adapter.specs.declared.command.Operation.TheVariants.{Trim}
use Rattle.device_model.specs.declared.steps.NextMove.{NextMove}
use Rattle.device_model.proofs.Absurd.{true-false}
use Rattle.device_model.proofs.Exchanging.{next_after, port_moves_over}
use Rattle.device_model.proofs.SlotLemmas.{at_port}
use Rattle.device_model.proofs.Stepping.{moved_by}
use Rattle.device_model.proofs.hardware.Hardware.note_move.Goals as goal

pub returns-clause-moved : goal.returns-clause-moved
returns-clause-moved c = λ old o t is next.
    let h = c.args.self.now in
    let bytes : List ℕ = piece_in_memory h c.args.next in
    let first : c.piece_in.result.now ≡ bytes = c.piece_in.ensures
    ∙ ap (λ (l : List ℕ). bytes_at (bytes_of l) c.args.next.address 512) c.deref.ensures.value in
    let again : c.piece_in-2.result.now ≡ bytes = c.piece_in-2.ensures
    ∙ ap (λ (l : List ℕ). bytes_at (bytes_of l) c.args.next.address 512) c.deref-2.ensures.value in
    let small : c.from.result < length h.ports = search rules in
    let held : taken_in (slice_index_or h.ports c.args.port reset_port_without_disk).taken c.args.slot ≡ Some t =
    subst (λ (x : Hardware). taken_in (slice_index_or x.ports c.args.port reset_port_without_disk).taken c.args.slot ≡ Some t)
    (sym is.rest_is_kept) next.works_on.is_taken in
    let here = rw (← c.from.ensures) at held in
    let noted : c.push_reserved.new.self.items
    ≡ h.tape.items ++ entry.Move (moved_by c.args.port c.args.slot c.args.next.operation c.args.next.sector
    c.args.next.address c.direction.result bytes) ∷ [] =
    c.push_reserved.ensures.items
    ∙ ap (λ (l : List ℕ). h.tape.items ++ entry.Move (moved_by c.args.port c.args.slot c.args.next.operation
    c.args.next.sector c.args.next.address c.direction.result l) ∷ [])
    (c.of.ensures ∙ first) in
    let moved = (rw (at_port h.ports c.from.result c.index-self-from.result small) at
    (c.advance.ensures.moved (o.media c.from.result) t)) here in
    port_moves_over old h o c.from.result c.args.port c.args.slot c.args.next _ t c.push_reserved.new.self
    c.args.next.operation c.direction.result is
    c.from.ensures small next (rw again at moved) refl c.direction.ensures noted

pub returns-clause-after : goal.returns-clause-after
returns-clause-after c =
    let h = c.args.self.now in
    let t : TakenCommand = c.requires.next.0 in
    let is = c.requires.next.1 in
    let u : TakenCommand = record t { moved = t.moved + 1 } in
    let last : Hardware = record h {
      ports = slice_set h.ports c.from.result c.advance.new.self;
      tape = c.push_reserved.new.self;
      starved = h.starved;
    } in
    let small : c.from.result < length h.ports = search rules in
    let here = rw (← c.from.ensures) at is.works_on.is_taken in
    IfSome_then c.after.result c.after.ensures
    (λ n one.
    let moves_sectors = is.pieces_follow.is_ranged_if_any one.0 in
    let no_trim : c.args.next.operation ≡ Trim → ⊥ = λ (e : c.args.next.operation ≡ Trim).
    true-false moves_sectors (ap moves_disk_sectors (sym is.operation_is ∙ e)) in
    let next = next_after h c.from.result c.args.port c.args.slot c.args.next t _ c.push_reserved.new.self h.starved is one.0 c.from.ensures small
    (rw (at_port h.ports c.from.result c.index-self-from.result small) at c.advance.ensures.rest)
    ((rw (at_port h.ports c.from.result c.index-self-from.result small) at (c.advance.ensures.held t)) here no_trim) in
    (u, subst (λ (x : NextMove). IsNextMove last c.args.port c.args.slot x u) (sym one.1) next))
