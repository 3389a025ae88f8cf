use Rattle.std.proofs.Common.{ℕ, subst, slice_index_or}
use Rattle.device_model.specs.Slots.{IsFetchableIfHaltAdmits}
use Rattle.device_model.specs.PortView.{reset_port_without_disk}
use Rattle.device_model.proofs.Stepping.{fetch_takes}
use Rattle.device_model.proofs.hardware.Hardware.fetch.Goals as goal

pub fetch_decoded-requires-clause-may : goal.fetch_decoded-requires-clause-may
fetch_decoded-requires-clause-may c =
    let P : ℕ → Type 0 = λ q. IsFetchableIfHaltAdmits (slice_index_or c.args.self.now.ports q reset_port_without_disk) c.args.slot in
    subst P c.from.ensures (c.is_fetchable_if_halt_admits.ensures.may c.if-is_fetchable_if_halt_admits.true)

pub returns-else-is_fetchable_if_halt_admits-clause-complete : goal.returns-else-is_fetchable_if_halt_admits-clause-complete
returns-else-is_fetchable_if_halt_admits-clause-complete c = λ _ o m places may.
    c.is_fetchable_if_halt_admits.ensures.complete c.if-is_fetchable_if_halt_admits.false (o.media c.from.result) m.operation
    (fetch_takes c.args.self.now o c.from.result c.args.port c.args.slot m places c.from.ensures may)
