use Rattle.std.proofs.Common.{◌≡◌, Ok, Err, sym, subst}
use Rattle.std.specs.Prelude.{Box, IfOk}
use Rattle.std.specs.declared.result.Result.{Result}
use Rattle.block_server.specs.ServerView.{ServerView}
use Rattle.device_model.specs.declared.model.Model.{Model}
use Rattle.play.specs.PlayedScript.{IsNewServerOfNewModel}
use Rattle.play.proofs.session.start.Goals as goal

-- what holds of a value holds of it in a box
boxed : {T Z E : Type 0} (P : T → Type 0) (value : T) (r : Result (Box T Z) E) → IfOk r (λ there. there.value ≡ value) → P value → IfOk r (λ there. P there.value)
boxed P value (Ok there) same given = subst P (sym same) given
boxed P value (Err e) same given = tt

pub returns : goal.returns
returns g c =
    let Started : ServerView (Model g.row.S.Denot) → Type 0 = λ server. IsNewServerOfNewModel g.S.SectorStore.size g.S.SectorStore.told c.args.config c.args.image c.args.blank server in
    boxed Started c.in-Ok.server c.on_heap.result c.on_heap.ensures
    (record { model = c.in_ok-model.model; is_model = c.in_ok-model.ensures.is_model; is_initial_server = c.in-Ok.ensures.made })
