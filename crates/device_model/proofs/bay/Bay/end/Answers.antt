use Rattle.std.proofs.Common.{sym, subst}
use Rattle.device_model.specs.Disks.{BayEndsCommand}
use Rattle.device_model.specs.declared.bay.Bay.{Bay}
use Rattle.adapter.specs.declared.command.Operation.{Operation}
use Rattle.device_model.proofs.bay.Bay.end.Goals as goal

pub returns-in-Flush : goal.returns-in-Flush
returns-in-Flush g c =
    let a : Bay g.row.S.Denot = c.args.self.now in
    let now : Bay g.row.S.Denot = record a { lasting = c.of.result; cache = c.forget.new.self } in
    let P : Operation → Type 0 = λ k. BayEndsCommand k a now in
    subst P (sym c.in-Flush.is) (c.forget.ensures, λ i. record a { lasting = record { marker = record {}; value = c.of.ensures i }; cache = c.forget.new.self })
