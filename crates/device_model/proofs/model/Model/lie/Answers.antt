use Rattle.std.proofs.Common.{ℕ, refl, subst, arith}
use Rattle.adapter.specs.declared.access.DeviceStep.TheVariants as asked
use Rattle.device_model.specs.Disks.{OnlyChangesPageSource}
use Rattle.device_model.specs.DiskPages.{with_lie}
use Rattle.device_model.proofs.Told.{lie_answers}
use Rattle.device_model.proofs.model.Model.lie.Goals as goal

pub returns : goal.returns
returns g c =
    let m = c.args.self.now in
    let P : ℕ → Type 0 = λ n. OnlyChangesPageSource (with_lie c.args.page n c.args.bits) c.from.result m.bays.items c.add_lie_of.new.bays.items in
    let Q : ℕ → Type 0 = λ q. OnlyChangesPageSource (with_lie c.args.page c.args.offset c.args.bits) q m.bays.items c.add_lie_of.new.bays.items in
    let at = c.from-offset.ensures in
    let small = c.if-offset-ge-PAGE_BYTES.false in
    lie_answers g.S.SectorStore.size g.S.SectorStore.told g.S.SectorStore.failures m (asked.Lie c.args.port c.args.page c.args.offset c.args.bits)
    (with_lie c.args.page c.args.offset c.args.bits) c.add_lie_of.new.bays (subst Q c.from.ensures (subst P c.from-offset.ensures c.add_lie_of.ensures)) (omega (arith, at, small))
    (λ old new same. same) (λ old new. tt) refl refl refl refl
