-- Facts of the elements of a list.
use Rattle.std.proofs.Common.{zero, suc, List, [], ◌∷◌, ◌++◌, Option, Some, None, IfSome, map, All, AllPairs, Any, refl, sym, subst, arith}
use Rattle.std.proofs.lemmas.List.Elements.{All-cons, All-head, All-tail, All-nil}
use Rattle.std.specs.List.{AllZip, cons_option}

-- the first element is so with each later one, and the later ones are
pub AllPairs-split : {X : Type 0} (R : X → X → Type 0) (x : X) (xs : List X)
    → AllPairs R (x ∷ xs) → All (R x) xs × AllPairs R xs
AllPairs-split R x xs h = (
  (λ k d lt. h 0 (suc k) d (omega arith) (omega arith)),
  (λ i j d before lt. h (suc i) (suc j) d (omega arith) (omega arith)),
)

pub All-unmap : {X Y : Type 0} (P : X → Type 0) (f : Y → X) (ys : List Y) → All P (map f ys) → All (λ y. P (f y)) ys
All-unmap P f [] h = All-nil (λ y. P (f y))
All-unmap P f (y ∷ ys) h =
    All-cons (λ y. P (f y)) y ys (All-head P (f y) (map f ys) h) (All-unmap P f ys (All-tail P (f y) (map f ys) h))

pub Any-head : {X : Type 0} (P : X → Type 0) (x : X) (xs : List X) → P x → Any P (x ∷ xs)
Any-head P x xs p = (zero, x, omega arith, refl, p)

pub Any-later : {X : Type 0} (P : X → Type 0) (x : X) (xs : List X) → Any P xs → Any P (x ∷ xs)
Any-later P x xs h = (suc h.0, h.1, omega (arith, h.2), h.3, h.4)

pub Any-map : {X Y : Type 0} (P : X → Type 0) (f : Y → X) (ys : List Y) → Any (λ y. P (f y)) ys → Any P (map f ys)
Any-map P f [] (k, x, lt, is, p) = absurd (omega arith)
Any-map P f (y ∷ ys) (zero, x, lt, is, p) = Any-head P (f y) (map f ys) (subst (λ z. P (f z)) (sym is) p)
Any-map P f (y ∷ ys) (suc k, x, lt, is, p) = Any-later P (f y) (map f ys) (Any-map P f ys (k, x, omega arith, is, p))

pub Any-unmap : {X Y : Type 0} (P : X → Type 0) (f : Y → X) (ys : List Y) → Any P (map f ys) → Any (λ y. P (f y)) ys
Any-unmap P f [] (k, x, lt, is, p) = absurd (omega arith)
Any-unmap P f (y ∷ ys) (zero, x, lt, is, p) = Any-head (λ y. P (f y)) y ys (subst P (sym is) p)
Any-unmap P f (y ∷ ys) (suc k, x, lt, is, p) =
    Any-later (λ y. P (f y)) y ys (Any-unmap P f ys (k, x, omega arith, is, p))

pub All-cons_option : {X : Type 0} (P : X → Type 0) (o : Option X) (xs : List X)
    → IfSome o P → All P xs → All P (cons_option o xs)
All-cons_option P None xs here later = later
All-cons_option P (Some x) xs here later = All-cons P x xs here later

pub cons_option-All : {X : Type 0} (P : X → Type 0) (o : Option X) (xs : List X)
    → All P (cons_option o xs) → IfSome o P × All P xs
cons_option-All P None xs h = (tt, h)
cons_option-All P (Some x) xs h = (All-head P x xs h, All-tail P x xs h)

-- of lists of two types
pub AllZip-push : {X Y : Type 0} (R : X → Y → Type 0) (xs : List X) (ys : List Y) (x : X) (y : Y)
    → AllZip R xs ys → R x y
    → AllZip R (xs ++ x ∷ []) (ys ++ y ∷ [])
AllZip-push R [] [] x y h r = (r, tt)
AllZip-push R [] (z ∷ ys) x y h r = absurd h
AllZip-push R (w ∷ xs) [] x y h r = absurd h
AllZip-push R (w ∷ xs) (z ∷ ys) x y h r = (h.0, AllZip-push R xs ys x y h.1 r)
