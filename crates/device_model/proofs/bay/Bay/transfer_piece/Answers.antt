use Rattle.std.proofs.Common.{ℕ, ◌+◌, ◌-◌, List, drop, sym, subst, take, arith}
use Rattle.device_model.specs.PieceTransfers.{TransfersPieceOrFails, piece_in_memory}
use Rattle.device_model.specs.declared.hardware.Hardware.{Hardware}
use Rattle.device_model.proofs.Exchanging.{exchanged, piece_is, piece_stays, piece_was, with_piece}
use Rattle.device_model.proofs.bay.Bay.transfer_piece.Goals as goal

pub returns-clause-exchanges : goal.returns-clause-exchanges
returns-clause-exchanges g c =
    let h = c.args.hardware.now in
    let next = c.args.next in
    let k : ℕ = next.address + 512 - next.address in
    let d = c.deref_mut.result.now in
    let b = c.transfer_within.new.piece in
    let there : Hardware = with_piece h next.address k d b in
    let E : List ℕ → List ℕ → Type 0 = λ before after. TransfersPieceOrFails g.S.SectorStore.size g.S.SectorStore.told
    g.S.SectorStore.failures c.args.self.now
    c.transfer_within.new.self next before after c.transfer_within.result in
    let was = piece_was h next k d c.deref_mut.ensures.value (omega arith) c.requires.inside in
    let is = piece_is h next k d b c.deref_mut.ensures.value (omega arith) c.requires.inside c.transfer_within.ensures.bytes_are_sector.0
    in
    subst (λ before. E before (piece_in_memory there next)) (sym was) (subst (λ after. E (take k (drop next.address d)) after)
    (sym is) c.transfer_within.ensures)

pub returns-clause-memory : goal.returns-clause-memory
returns-clause-memory g c =
    exchanged c.args.hardware.now c.args.next (c.args.next.address + 512 - c.args.next.address) c.deref_mut.result.now
    c.transfer_within.new.piece
    c.deref_mut.ensures.value (omega arith) c.requires.inside c.transfer_within.ensures.bytes_are_sector.0 c.transfer_within.ensures.write_keeps_bytes

pub returns-clause-stays : goal.returns-clause-stays
returns-clause-stays g c = λ failed o.
    piece_stays c.args.hardware.now o c.args.next (c.args.next.address + 512 - c.args.next.address)
    c.deref_mut.result.now c.transfer_within.new.piece
    c.deref_mut.ensures.value (omega arith) c.requires.inside (c.transfer_within.ensures.failure_keeps_bytes failed)
