use Rattle.std.proofs.Common.{Bool, true, false, ◌≡◌, ◌∙◌, refl, sym, inl, inr}
use Rattle.std.specs.Prelude.{not}
use Rattle.std.specs.Cmp.{booleans_Decides}
use Rattle.std.proofs.lemmas.Slice.Eq.{slice_eq-Decides}
use Rattle.device_model.proofs.Absurd.{true-false}
use Rattle.device_model.specs.HeldPorts.{all_held}
use Rattle.device_model.proofs.hardware.Hardware.end_reset_unless_all_held.Goals as goal
use Rattle.device_model.proofs.hardware.Hardware.end_reset_unless_all_held.Goals.{else-self-via-then-self+else-ne, else-self-via-else-self}

not_false : (b : Bool) → not b ≡ false → b ≡ true
not_false true e = refl
not_false false e = true-false refl e

not_true : (b : Bool) → not b ≡ true → b ≡ false
not_true true e = true-false e refl
not_true false e = refl

-- one is, and not all are held
pub returns-then-ne-clause-resets : goal.returns-then-ne-clause-resets
returns-then-ne-clause-resets c = λ o.
    inr (
      c.if-self.true,
      λ all. true-false ((slice_eq-Decides booleans_Decides c.args.held.now all_held _ refl).1 all) (not_true _ (sym c.ne.ensures ∙ c.if-ne.true)),
      refl,
      c.end_reset.ensures.resets o,
    )

pub returns-else-self-clause-left : goal.returns-else-self-clause-left
returns-else-self-clause-left c =
    elim c.else-self.branch [
      | else-self-via-then-self+else-ne w ↦ λ _.
          (slice_eq-Decides booleans_Decides c.args.held.now all_held _ refl).0 (not_false _ (sym w.ne.ensures ∙ w.if-ne.false))
      | else-self-via-else-self w ↦ λ on. true-false on w.if-self.false
    ]

-- none is pending, or all are held
pub returns-else-self-clause-resets : goal.returns-else-self-clause-resets
returns-else-self-clause-resets c = λ o. inl (λ on. returns-else-self-clause-left c on, refl, refl)
