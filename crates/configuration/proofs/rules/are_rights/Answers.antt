use Rattle.std.proofs.Common.{◌∙◌, ap}
use Rattle.configuration.specs.Ranges.{without_first_letter}
use Rattle.configuration.proofs.Letters.{rights_by_left}
use Rattle.configuration.proofs.rules.are_rights.Goals as goal

pub returns-then-not-is_empty : goal.returns-then-not-is_empty
returns-then-not-is_empty c =
    let read = c.without_first_letter.ensures ∙ ap (without_first_letter 114) c.as_bytes.ensures.value in
    let write = c.without_first_letter-rest.ensures ∙ ap (without_first_letter 119) read in
    let trim = c.without_first_letter-then-not-is_empty.ensures ∙ ap (without_first_letter 116) write in
    let flush = c.without_first_letter-then-not-is_empty-2.ensures ∙ ap (without_first_letter 102) trim in
    rights_by_left c.args.text.now c.without_first_letter-then-not-is_empty-2.result.now c.is_empty.result
    c.is_empty-then-not-is_empty.result flush c.is_empty.ensures c.if-not-is_empty.true
    c.is_empty-then-not-is_empty.ensures
