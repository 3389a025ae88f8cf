use Rattle.std.proofs.Common.{◌≡◌, ◌+◌, ◌-◌, ◌∙◌, ◌∷◌, Some, None, List, ℕ, length, take, drop, ap, sym, arith}
use Rattle.std.proofs.lemmas.Grind.{common_steps}
use Rattle.script.specs.Script.{lines_of}
use Rattle.script.proofs.ScriptLemmas.{line_feed_at}
use Rattle.script.proofs.script.first_line.Goals as goal

all_after : (text : List ℕ) (at : ℕ) → drop (at + 1) text ≡ take (length text - (at + 1)) (drop (at + 1) text)
all_after text at = grind (arith, common_steps)

pub returns-in-Some-clause-is_first_line : goal.returns-in-Some-clause-is_first_line
returns-in-Some-clause-is_first_line c =
    let found = line_feed_at c.args.text.now (Some c.in-Some.at) (sym c.in-Some.is ∙ c.line_feed.ensures) in
    found.lines ∙ ap (λ (rest : List ℕ). take c.in-Some.at c.args.text.now ∷ lines_of rest) (all_after c.args.text.now c.in-Some.at)

pub returns-in-None-clause-is_first_line : goal.returns-in-None-clause-is_first_line
returns-in-None-clause-is_first_line c = line_feed_at c.args.text.now None (sym c.in-None.is ∙ c.line_feed.ensures)
