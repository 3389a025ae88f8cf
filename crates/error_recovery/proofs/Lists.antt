-- A place of a list that is longer than its front.
use Rattle.std.proofs.Common.{◌≡◌, ◌≤◌, ◌++◌, List, [], ◌∷◌, length, drop, ap, arith}
use Rattle.std.specs.Prelude.{Contains}
use Rattle.std.proofs.lemmas.List.Elements.{All-contains_itself, All-head, Contains-append_right}

-- an element stands in its list
pub stands : {X : Type 0} (before : List X) (x : X) (later : List X) → Contains (before ++ x ∷ later) x
stands before x later = Contains-append_right before (x ∷ later) x (All-head (Contains (x ∷ later)) x later (All-contains_itself (x ∷ later)))

-- behind a front that ends before it, the element stands as it does in the whole
pub behind : {X : Type 0} (front rest before : List X) (x : X) (later : List X) → front ++ rest ≡ before ++ x ∷ later → length front ≤ length before → (mid : List X) × (rest ≡ mid ++ x ∷ later)
behind [] rest before x later same le = (before, same)
behind (y ∷ front) rest [] x later same le = absurd (omega (arith, le))
behind (y ∷ front) rest (z ∷ before) x later same le = behind front rest before x later (ap (λ xs. drop 1 xs) same) (omega (arith, le))
