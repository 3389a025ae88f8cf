use Rattle.std.proofs.Common.{◌≡◌, ◌∙◌, ap}
use Rattle.configuration.specs.PlanParts.{has_letter}
use Rattle.configuration.proofs.plan.rights_of.Goals as goal

pub returns : goal.returns
returns c =
    let text = c.args.text.now in
    let is = c.as_bytes-letters.ensures.value in
    let read : c.contains.result ≡ has_letter 114 text = c.contains.ensures.value ∙ ap (has_letter 114) is in
    let write : c.contains-2.result ≡ has_letter 119 text = c.contains-2.ensures.value ∙ ap (has_letter 119) is in
    let trim : c.contains-3.result ≡ has_letter 116 text = c.contains-3.ensures.value ∙ ap (has_letter 116) is in
    let flush : c.contains-4.result ≡ has_letter 102 text = c.contains-4.ensures.value ∙ ap (has_letter 102) is in
    cc
