use Rattle.std.proofs.Common.{ℕ, ◌∙◌, ◌+◌, ◌-◌, ◌%◌, ◌<◌, arith}
use Rattle.std.proofs.lemmas.List.{length-set}
use Rattle.std.proofs.lemmas.List.Elements.{All-set}
use Rattle.sector_store.proofs.Words.{log_is, named_page, named_size}
use Rattle.sector_store.proofs.pages.log_page.Goals as goal

pub returns-clause-page : goal.returns-clause-page
returns-clause-page c =
    log_is c.log_tag.result c.log_status.result c.log_error.result c.args.failed _ c.log_tag.ensures c.log_status.ensures c.log_error.ensures
    (let s = c.sum_of.ensures.total in omega (arith, s))

pub returns-clause-bytes : goal.returns-clause-bytes
returns-clause-bytes c =
    let page = named_page c.log_tag.result c.log_status.result c.log_error.result in
    let last : ℕ = (0 + (256 - c.sum_of.result)) % 256 in
    let small : last < 256 = omega arith in (
      length-set page 511 last ∙ named_size c.log_tag.result c.log_status.result c.log_error.result,
      All-set (λ byte. byte < 256) page 511 last small c.sum_of.ensures.bytes,
    )
