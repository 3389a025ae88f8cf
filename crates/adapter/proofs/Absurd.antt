-- Facts that can't hold together.
use Rattle.std.proofs.Common.{◌≡◌, Bool, true, false, Option, None, Some, refl, sym, ◌∙◌}

pub true-false : {A : Type 0} {b : Bool} → b ≡ true → b ≡ false → A
true-false h k = absurd (let e : true ≡ false = sym h ∙ k in cc)

pub some-none : {A B : Type 0} {o : Option B} {x : B} → o ≡ Some x → o ≡ None → A
some-none {A} {B} {o} {x} h k = absurd (let e : Some x ≡ None = sym h ∙ k in cc)

pub some_one : {B : Type 0} {x y : B} → Some x ≡ Some y → x ≡ y
some_one e = cc

-- a bit that never rises was set before
pub set_before : (a b : Bool) → (a ≡ false → b ≡ false) → b ≡ true → a ≡ true
set_before true b h set = refl
set_before false b h set = true-false set (h refl)
