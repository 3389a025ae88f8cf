-- Two lists whose members stand for one another, place by place.
use Rattle.std.proofs.Common.{◌≡◌, List, [], ◌∷◌, sym, subst, ⊎_elim}
use Rattle.std.specs.List.{AllZip, Contains}
use Rattle.server_history.proofs.state.ListMembers.{contains_there, contains_cases}
use Rattle.server_history.proofs.state.FirstMembers.{nowhere, first_here}

-- what each member of the second list has at its place
pub at_right : {X Y : Type 0} (R : X → Y → Type 0) (xs : List X) (ys : List Y) → AllZip R xs ys → (y : Y) → Contains ys y → (x : X) × Contains xs x × R x y
at_right R [] [] all y here = absurd (nowhere y here)
at_right R [] (b ∷ ys) all y here = absurd all
at_right R (a ∷ xs) [] all y here = absurd all
at_right R (a ∷ xs) (b ∷ ys) all y here = ⊎_elim
    (λ (is : y ≡ b). (a, first_here a xs, subst (λ z. R a z) (sym is) all.0))
    (λ (there : Contains ys y). let rest = at_right R xs ys all.1 y there in (rest.0, contains_there a xs rest.0 rest.1, rest.2))
    (contains_cases b ys y here)

-- and of the first
pub at_left : {X Y : Type 0} (R : X → Y → Type 0) (xs : List X) (ys : List Y) → AllZip R xs ys → (x : X) → Contains xs x → (y : Y) × Contains ys y × R x y
at_left R [] ys all x here = absurd (nowhere x here)
at_left R (a ∷ xs) [] all x here = absurd all
at_left R (a ∷ xs) (b ∷ ys) all x here = ⊎_elim
    (λ (is : x ≡ a). (b, first_here b ys, subst (λ z. R z b) (sym is) all.0))
    (λ (there : Contains xs x). let rest = at_left R xs ys all.1 x there in (rest.0, contains_there b ys rest.0 rest.1, rest.2))
    (contains_cases a xs x here)
