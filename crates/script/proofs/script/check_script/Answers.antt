use Rattle.std.proofs.Common.{◌++◌, [], Option, List, ℕ, subst, refl, append-nil, ap, ◌∙◌, sym, arith}
use Rattle.std.specs.Borrow.{Bor}
use Rattle.script.specs.Script.{AskForCalls, no_lines, lines_after}
use Rattle.script.proofs.ScriptLemmas.{LookedAt, looked_further}
use Rattle.script.proofs.script.check_script.Goals as goal

pub loop-rest-init : goal.loop-rest-init
loop-rest-init c = record { before = []; lines = []; good = no_lines; cut = refl; counted = refl; few = omega arith }

pub loop-rest-preserved : goal.loop-rest-preserved
loop-rest-preserved c =
    let so_far = subst (λ (rest : Option (Bor (List ℕ))). LookedAt c.args.text.now c.loop-rest.number rest) c.in-Some.is c.loop-rest.invariant in
    looked_further c.args.text.now c.loop-rest.number c.in-Some.left c.first_line.result.0.now c.first_line.result.1 _ so_far
    c.first_line.ensures.is_first_line c.first_line.ensures.rest_is_shorter c.in-Ok.ensures.ok

pub returns-in-Err-clause-bad : goal.returns-in-Err-clause-bad
returns-in-Err-clause-bad c =
    let so_far = subst (λ (rest : Option (Bor (List ℕ))). LookedAt c.args.text.now c.loop-rest.number rest) c.in-Some.is c.loop-rest.invariant in
    record {
      before = so_far.before;
      bad = c.first_line.result.0.now;
      after = lines_after c.first_line.result.1;
      lines = so_far.lines;
      lines_are = so_far.cut ∙ ap (λ (ts : List (List ℕ)). so_far.before ++ ts) c.first_line.ensures.is_first_line;
      is_bad = c.in-Err.ensures.bad;
      earlier_lines_ask = so_far.good;
      number_is = omega (arith, so_far.counted);
    }

pub returns-clause-ok : goal.returns-clause-ok
returns-clause-ok c =
    let so_far = subst (λ (rest : Option (Bor (List ℕ))). LookedAt c.args.text.now c.loop-rest.number rest) c.in_default.is c.loop-rest.invariant in
    (so_far.lines, subst (λ ts. AskForCalls ts so_far.lines) (sym (so_far.cut ∙ append-nil so_far.before)) so_far.good)
