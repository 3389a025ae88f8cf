use Rattle.std.proofs.Common.{ℕ, List, subst}
use Rattle.device_model.specs.PieceTransfers.{TransfersPieceOrFails}
use Rattle.device_model.proofs.bay.Bay.transfer_within.Goals as goal

pub returns : goal.returns
returns g c =
    let E : List ℕ → Type 0 = λ before. TransfersPieceOrFails g.S.SectorStore.size g.S.SectorStore.told g.S.SectorStore.failures
    c.args.self.now
    c.transfer_bytes.new.self c.args.next before c.transfer_bytes.new.bytes c.transfer_bytes.result in
    subst E c.in-Some.ensures.cases.same c.transfer_bytes.ensures
