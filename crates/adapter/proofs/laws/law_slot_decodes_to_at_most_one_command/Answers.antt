use Rattle.adapter.proofs.SaysLemmas.{says_meaning, says_places}
use Rattle.adapter.proofs.laws.law_slot_decodes_to_at_most_one_command.Goals as goal

pub returns : goal.returns
returns c = λ memory list slot m n xs ys a b. (says_meaning memory list slot m n xs ys a b, says_places memory list slot m n xs ys a b)
