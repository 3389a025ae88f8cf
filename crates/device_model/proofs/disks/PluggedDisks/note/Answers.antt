use Rattle.std.proofs.Common.{◌++◌, ◌∷◌, [], ◌∙◌, ap}
use Rattle.device_model.specs.Disks.{plugged_as}
use Rattle.device_model.proofs.disks.PluggedDisks.note.Goals as goal

pub returns : goal.returns
returns g c disk =
    ap (λ before. plugged_as disk before ++ disk c.args.which c.of.result.value ∷ []) c.of-before.ensures
    ∙ ap (λ store. plugged_as disk c.args.self.now ++ disk c.args.which store ∷ []) c.of.ensures
