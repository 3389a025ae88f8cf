-- Facts that can't hold together, and functions that are the same everywhere.
use Rattle.std.proofs.Common.{◌≡◌, Bool, true, false, Option, None, Some, IsSomeAnd, sym, subst, ◌∙◌}

pub true-false : {A : Type 0} {b : Bool} → b ≡ true → b ≡ false → A
true-false h k = absurd (let e : true ≡ false = sym h ∙ k in cc)

pub some-none : {A B : Type 0} {o : Option B} {x : B} → o ≡ Some x → o ≡ None → A
some-none {A} {B} {o} {x} h k = absurd (let e : Some x ≡ None = sym h ∙ k in cc)

pub some_one : {B : Type 0} {x y : B} → Some x ≡ Some y → x ≡ y
some_one e = cc

pub none_and : {A B : Type 0} (o : Option B) (P : B → Type 0) → IsSomeAnd o P → o ≡ None → A
none_and o P some none = absurd (subst (λ x. IsSomeAnd x P) none some)

pub some_and : {B : Type 0} (o : Option B) (P : B → Type 0) (x : B) → IsSomeAnd o P → o ≡ Some x → P x
some_and o P x some is = subst (λ y. IsSomeAnd y P) is some

pub fun_ext : {A B : Type 0} {f g : A → B} → ((x : A) → f x ≡ g x) → f ≡ g
fun_ext h = λ i x. h x i
