use Rattle.std.proofs.Common.{◌≡◌, ◌∙◌, AllPairs, false, true, subst, sym}
use Rattle.std.proofs.lemmas.List.Kept.{AllPairs-cons}
use Rattle.configuration.proofs.Lists.{AllPairs-split}
use Rattle.configuration.proofs.rules.all_apart.Goals as goal

pub returns-then-not-is_apart_from : goal.returns-then-not-is_apart_from
returns-then-not-is_apart_from g c =
    let apart = g.A.MustDiffer.apart in (
      (λ (t : false ≡ true). let none : ⊥ = cc in absurd none),
      (λ h.
          let all = subst (AllPairs apart) c.in-Some.ensures.cases.0 (c.loop-part.invariant.1 h) in
          let both = AllPairs-split apart c.in-Some.part.now c.in-Some.others.now all in
          sym c.if-not-is_apart_from.true ∙ c.is_apart_from.ensures.1 both.0),
    )

pub loop-part-preserved : goal.loop-part-preserved
loop-part-preserved g c =
    let apart = g.A.MustDiffer.apart in
    let part = c.in-Some.part.now in
    let others = c.in-Some.others.now in
    let is = c.in-Some.ensures.cases.0 in
    let first = c.is_apart_from.ensures.0 c.if-not-is_apart_from.false in (
      (λ h. c.loop-part.invariant.0 (subst (AllPairs apart) (sym is) (AllPairs-cons apart part others first h))),
      (λ h. (AllPairs-split apart part others (subst (AllPairs apart) is (c.loop-part.invariant.1 h))).1),
    )
