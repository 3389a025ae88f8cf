use Rattle.std.proofs.Common.{◌∙◌, sym, rules}
use Rattle.clap.specs.Words.{found_of}
use Rattle.clap.proofs.WalkLemmas.{first_value-rows}
use Rattle.command_line.proofs.text.Goals as goal

pub returns-in_ok-from_str-in-Some-clause-ok : goal.returns-in_ok-from_str-in-Some-clause-ok
returns-in_ok-from_str-in-Some-clause-ok c =
    let found = sym (first_value-rows (found_of c.args.matches.now) c.args.name.now) ∙ sym c.get_str.ensures in
    found ∙ search (rules, c.in-Some.is)

pub returns-in-None-clause-refused : goal.returns-in-None-clause-refused
returns-in-None-clause-refused c =
    let found = sym (first_value-rows (found_of c.args.matches.now) c.args.name.now) ∙ sym c.get_str.ensures in
    λ _. found ∙ search (rules, c.in-None.is)
