use Rattle.std.proofs.Common.{◌≡◌, ◌∙◌, arith, sym}
use Rattle.std.proofs.lemmas.Nat.{le_or_l, le_or_r}
use Rattle.followed.proofs.Noting.{no_bit}
use Rattle.followed.proofs.followed.Followed.outstanding.Goals as goal

pub returns : goal.returns
returns g c none slot small =
    let left : c.shown.result ≡ 0 = omega (arith, none, le_or_l c.shown.result c.shown-2.result) in
    let right : c.shown-2.result ≡ 0 = omega (arith, none, le_or_r c.shown.result c.shown-2.result) in
    (sym (c.shown.ensures slot small) ∙ no_bit c.shown.result slot left, sym (c.shown-2.ensures slot small) ∙ no_bit c.shown-2.result slot right)
