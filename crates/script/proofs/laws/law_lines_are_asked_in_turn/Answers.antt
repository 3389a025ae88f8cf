use Rattle.script.proofs.ScriptLemmas.{ask_from, ask_more, ask_one, not_bad}
use Rattle.script.proofs.laws.law_lines_are_asked_in_turn.Goals as goal

pub returns : goal.returns
returns c = record { asked_lists_join = ask_more; one_line_asks = ask_one; asked_lists_split = ask_from; asked_line_is_not_bad = not_bad }
