-- Two lists that are alike element by element have the same facts.
use Rattle.std.proofs.Common.{◌≡◌, ◌∙◌, zero, suc, List, [], ◌∷◌, length, All, AllPairs, Any, ap, arith, refl, subst, sym}
use Rattle.std.proofs.lemmas.List.Elements.{All-cons, All-head, All-nil, All-tail}
use Rattle.std.proofs.lemmas.List.Kept.{AllPairs-cons}
use Rattle.std.specs.List.{AllZip}
use Rattle.configuration.proofs.Lists.{AllPairs-split, Any-head, Any-later}

-- what one list stands for place by place is alike
pub zips-alike : {M X : Type 0} (S : M → X → Type 0) (R : X → X → Type 0) → ((m : M) (x y : X) → S m x → S m y → R x y)
    → (ms : List M) (xs ys : List X) → AllZip S ms xs → AllZip S ms ys → AllZip R xs ys
zips-alike S R one [] [] [] h k = tt
zips-alike S R one [] [] (y ∷ ys) h k = absurd k
zips-alike S R one [] (x ∷ xs) ys h k = absurd h
zips-alike S R one (m ∷ ms) [] ys h k = absurd h
zips-alike S R one (m ∷ ms) (x ∷ xs) [] h k = absurd k
zips-alike S R one (m ∷ ms) (x ∷ xs) (y ∷ ys) h k = (one m x y h.0 k.0, zips-alike S R one ms xs ys h.1 k.1)

pub same-list : {X : Type 0} (xs ys : List X) → AllZip (λ x y. x ≡ y) xs ys → xs ≡ ys
same-list [] [] h = refl
same-list [] (y ∷ ys) h = absurd h
same-list (x ∷ xs) [] h = absurd h
same-list (x ∷ xs) (y ∷ ys) h = ap (λ z. z ∷ xs) h.0 ∙ ap (λ zs. y ∷ zs) (same-list xs ys h.1)

pub same-length : {X : Type 0} (R : X → X → Type 0) (xs ys : List X) → AllZip R xs ys → length xs ≡ length ys
same-length R [] [] h = refl
same-length R [] (y ∷ ys) h = absurd h
same-length R (x ∷ xs) [] h = absurd h
same-length R (x ∷ xs) (y ∷ ys) h = ap suc (same-length R xs ys h.1)

pub All-alike : {X : Type 0} (R : X → X → Type 0) (P Q : X → Type 0) → ((x y : X) → R x y → P x → Q y)
    → (xs ys : List X) → AllZip R xs ys → All P xs → All Q ys
All-alike R P Q to [] [] h all = All-nil Q
All-alike R P Q to [] (y ∷ ys) h all = absurd h
All-alike R P Q to (x ∷ xs) [] h all = absurd h
All-alike R P Q to (x ∷ xs) (y ∷ ys) h all =
    All-cons Q y ys (to x y h.0 (All-head P x xs all)) (All-alike R P Q to xs ys h.1 (All-tail P x xs all))

pub AllPairs-alike : {X : Type 0} (R P : X → X → Type 0) → ((x y u v : X) → R x y → R u v → P x u → P y v)
    → (xs ys : List X) → AllZip R xs ys → AllPairs P xs → AllPairs P ys
AllPairs-alike R P to [] [] h all = all
AllPairs-alike R P to [] (y ∷ ys) h all = absurd h
AllPairs-alike R P to (x ∷ xs) [] h all = absurd h
AllPairs-alike R P to (x ∷ xs) (y ∷ ys) h all =
    let both = AllPairs-split P x xs all in
    let first = All-alike R (P x) (P y) (λ u v r. to x y u v h.0 r) xs ys h.1 both.0 in
    AllPairs-cons P y ys first (AllPairs-alike R P to xs ys h.1 both.1)

pub Any-alike : {X : Type 0} (R : X → X → Type 0) (P : X → Type 0) → ((x y : X) → R x y → P x → P y)
    → (xs ys : List X) → AllZip R xs ys → Any P xs → Any P ys
Any-alike R P to [] ys h (k, x, lt, is, p) = absurd (omega arith)
Any-alike R P to (x ∷ xs) [] h any = absurd h
Any-alike R P to (x ∷ xs) (y ∷ ys) h (zero, z, lt, is, p) = Any-head P y ys (to x y h.0 (subst P (sym is) p))
Any-alike R P to (x ∷ xs) (y ∷ ys) h (suc k, z, lt, is, p) =
    Any-later P y ys (Any-alike R P to xs ys h.1 (k, z, omega arith, is, p))
