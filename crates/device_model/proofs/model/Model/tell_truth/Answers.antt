use Rattle.std.proofs.Common.{ℕ, refl, subst}
use Rattle.adapter.specs.declared.access.DeviceStep.TheVariants as asked
use Rattle.device_model.specs.Disks.{OnlyChangesPageSource}
use Rattle.device_model.specs.DiskPages.{without_lies}
use Rattle.device_model.proofs.Told.{lie_answers}
use Rattle.device_model.proofs.model.Model.tell_truth.Goals as goal

pub returns : goal.returns
returns g c =
    let m = c.args.self.now in
    let Q : ℕ → Type 0 = λ q. OnlyChangesPageSource without_lies q m.bays.items c.end_lies.new.bays.items in
    lie_answers g.S.SectorStore.size g.S.SectorStore.told g.S.SectorStore.failures m (asked.Truth c.args.port) without_lies c.end_lies.new.bays
    (subst Q c.from.ensures c.end_lies.ensures) tt (λ old new same. same) (λ old new. tt) refl refl refl refl
