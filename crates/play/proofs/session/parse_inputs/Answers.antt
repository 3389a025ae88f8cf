use Rattle.std.proofs.Common.{sym, subst, IfErr}
use Rattle.std.proofs.lemmas.Result.{err_from_is_err_and}
use Rattle.play.specs.PlayedScript.{IsWhyNothingIsPlayed}
use Rattle.play.proofs.session.parse_inputs.Goals as goal

-- a bad line, where the configuration was read
pub returns-in_err-check_script-clause-refused : goal.returns-in_err-check_script-clause-refused
returns-in_err-check_script-clause-refused c =
    let given = err_from_is_err_and c.from_residual-in_err-check_script.result c.from_residual-in_err-check_script.ensures.1 in
    subst (λ r. IfErr r (IsWhyNothingIsPlayed c.args.config.now c.args.script.now)) (sym given.1)
    (subst (λ ended. IsWhyNothingIsPlayed c.args.config.now c.args.script.now ended) (sym given.2) (c.in_ok-values.values, c.in_ok-values.ensures.ok, c.in_err-check_script.ensures.bad))
