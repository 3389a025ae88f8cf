use Rattle.std.proofs.Common.{ℕ, ◌≡◌, List, Bool, Option, Some, sym, subst}
use Rattle.block_server.specs.ServerView.{ServerView}
use Rattle.device_model.specs.declared.model.Model.{Model}
use Rattle.device_model.specs.ModelState.{is_starved}
use Rattle.play.specs.PlayedScript.{PlaysFirstLines, EndsPlay, IsNewServerOfNewModel, NoMemoryPrintsNoneUnwrittenIsNotStarved, ended_by_stop}
use Rattle.play.specs.declared.session.Ended.{Ended}
use Rattle.play.specs.declared.session.PlayError.{PlayError}
use Rattle.play.specs.declared.session.PlayError.TheVariants.{NoMemory, Unwritten}
use Rattle.play.proofs.Answering.{played_of}
use Rattle.play.proofs.session.play_script.Goals as goal

-- a run that stopped in its midst was played so far
stopped : {S : Type 0} (size : S → ℕ) (told : S → Option (ℕ → List ℕ)) (config script : List ℕ) (image blank : S) (trace : Bool) (old new : Option (List ℕ))
    (model : Model S) (stop : PlayError) (played : PlaysFirstLines size told config script image blank trace old new model) → NoMemoryPrintsNoneUnwrittenIsNotStarved (is_starved model) played.ran.part stop
    → EndsPlay size told config script image blank trace old new (ended_by_stop stop) (Some model)
stopped size told config script image blank trace old new model NoMemory played why = (played, why)
stopped size told config script image blank trace old new model Unwritten played why = (played, why)

pub returns-in-Ok-performed : goal.returns-in-Ok-performed
returns-in-Ok-performed g c =
    let ran = c.in-Ok-performed.ensures in
    let Started : ServerView (Model g.row.S.Denot) → Type 0 = λ server. IsNewServerOfNewModel g.S.SectorStore.size g.S.SectorStore.told c.in-Ok.values c.args.inputs.image c.args.inputs.blank server in (
      played_of g.S.SectorStore.size g.S.SectorStore.told c.args.inputs.config.now c.args.inputs.script.now c.args.inputs.image c.args.inputs.blank c.args.inputs.trace _ _ c.in-Ok.values
          c.in-Ok.ensures.read c.deref_mut.result.now c.play_lines-performed.new.server (subst Started (sym c.deref_mut.ensures.value) c.in-Ok-start.ensures) ran.0
          (record { none = c.law_calls_that_extend_history_keep_promise.ensures.no_calls; more = c.law_calls_that_extend_history_keep_promise.ensures.calls_join }) c.close_server.result c.close_server.ensures,
      ran.1,
    )

pub returns-in-Err-performed : goal.returns-in-Err-performed
returns-in-Err-performed g c =
    let ran = c.in-Err-performed.ensures in
    let Started : ServerView (Model g.row.S.Denot) → Type 0 = λ server. IsNewServerOfNewModel g.S.SectorStore.size g.S.SectorStore.told c.in-Ok.values c.args.inputs.image c.args.inputs.blank server in
    let left : c.close_server.result ≡ c.play_lines-performed.new.server.adapter = c.close_server.ensures in
    subst (λ (ended : Ended). EndsPlay g.S.SectorStore.size g.S.SectorStore.told c.args.inputs.config.now c.args.inputs.script.now c.args.inputs.image c.args.inputs.blank c.args.inputs.trace
    (g.W.Write.contents c.args.out.now) (g.W.Write.contents c.play_lines-performed.new.out) ended (Some c.close_server.result)) (sym c.from.ensures)
    (stopped _ _ c.args.inputs.config.now c.args.inputs.script.now c.args.inputs.image c.args.inputs.blank c.args.inputs.trace _ _ c.close_server.result c.in-Err-performed.stop
    (played_of g.S.SectorStore.size g.S.SectorStore.told c.args.inputs.config.now c.args.inputs.script.now c.args.inputs.image c.args.inputs.blank c.args.inputs.trace _ _ c.in-Ok.values
    c.in-Ok.ensures.read c.deref_mut.result.now c.play_lines-performed.new.server (subst Started (sym c.deref_mut.ensures.value) c.in-Ok-start.ensures) ran.0
    (record { none = c.law_calls_that_extend_history_keep_promise.ensures.no_calls; more = c.law_calls_that_extend_history_keep_promise.ensures.calls_join }) c.close_server.result left)
    (subst (λ (m : Model g.row.S.Denot). NoMemoryPrintsNoneUnwrittenIsNotStarved (is_starved m) ran.0.part c.in-Err-performed.stop) (sym left) ran.2))
