-- Members of lists: of one that is empty, and the first of one that isn't.
use Rattle.std.proofs.Common.{List, [], ◌∷◌, refl, arith}
use Rattle.std.specs.List.{Contains}
use Rattle.std.proofs.lemmas.List.Elements.{All-contains, All-nil}

-- nothing stands in an empty list
pub nowhere : {X : Type 0} (x : X) → Contains [] x → ⊥
nowhere x here = All-contains (λ _. ⊥) [] x (All-nil (λ _. ⊥)) here

-- the first of a list stands in it
pub first_here : {X : Type 0} (x : X) (xs : List X) → Contains (x ∷ xs) x
first_here x xs = (0, omega arith, refl)
