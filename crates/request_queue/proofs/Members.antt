-- Members of lists, and counts of them.
use Rattle.std.proofs.Common.{◌≡◌, ℕ, zero, suc, ◌≤◌, ◌+◌, Bool, false, cond, List, [], ◌∷◌, ◌++◌, map, take, Some, refl, sym, ap, ◌∙◌, arith}
use Rattle.std.specs.List.{Contains, count_by, filter, slice_get}
use Rattle.std.proofs.lemmas.Bool.{cond-false}
use Rattle.std.proofs.lemmas.List.{take_more}
use Rattle.std.proofs.lemmas.List.Sums.{sum_by-cons, sum_by-append}
use Rattle.std.proofs.lemmas.Option.{slice_get_within, get_or_from_slice_get}
pub use Rattle.block_machine.proofs.Members.{contains_none, contains_here, contains_there, contains_cases, into_map, map_in}

-- a count counts its first, and then the rest
pub count_cons : {X : Type 0} (p : X → Bool) (x : X) (xs : List X) → count_by p (x ∷ xs) ≡ cond (p x) 1 0 + count_by p xs
count_cons p x xs = sum_by-cons (λ y. cond (p y) 1 0) x xs

pub count_append : {X : Type 0} (p : X → Bool) (xs ys : List X) → count_by p (xs ++ ys) ≡ count_by p xs + count_by p ys
count_append p xs ys = sum_by-append (λ y. cond (p y) 1 0) xs ys

-- a count of changed members
pub count_map : {X Y : Type 0} (p : Y → Bool) (q : X → Bool) (f : X → Y) (xs : List X) → ((y : X) → Contains xs y → p (f y) ≡ q y) → count_by p (map f xs) ≡ count_by q xs
count_map p q f [] same = refl
count_map p q f (x ∷ xs) same =
    let rest = count_map p q f xs (λ y h. same y (contains_there x xs y h)) in
    let head : ◌≡◌ {A = ℕ} (cond (p (f x)) 1 0) (cond (q x) 1 0) = ap (λ (b : Bool). cond b 1 0) (same x (contains_here x xs x refl)) in
    omega (arith, rest, head, count_cons p (f x) (map f xs), count_cons q x xs)

-- one place further
pub taken_more : {X : Type 0} (xs : List X) (i : ℕ) (x : X) → slice_get xs i ≡ Some x → take (i + 1) xs ≡ take i xs ++ x ∷ []
taken_more xs i x is = take_more xs i x (slice_get_within xs i x is) ∙ ap (λ (y : _). take i xs ++ y ∷ []) (get_or_from_slice_get xs i x x is)

pub count_more : {X : Type 0} (p : X → Bool) (xs : List X) (i : ℕ) (x : X) → slice_get xs i ≡ Some x → count_by p (take (i + 1) xs) ≡ count_by p (take i xs) + cond (p x) 1 0
count_more p xs i x is =
    let a = ap (λ (ys : List _). count_by p ys) (taken_more xs i x is) in
    let b = count_append p (take i xs) (x ∷ []) in
    let c = count_cons p x [] in
    omega (arith, a, b, c)

-- of the first places fewer pass than of more of them
pub count_least : {X : Type 0} (p : X → Bool) (xs : List X) (i j : ℕ) → i ≤ j → count_by p (take i xs) ≤ count_by p (take j xs)
count_least p xs zero j le = omega arith
count_least p xs (suc i) zero le = absurd (omega (arith, le))
count_least p [] (suc i) (suc j) le = omega arith
count_least p (x ∷ xs) (suc i) (suc j) le =
    let rest = count_least p xs i j (omega (arith, le)) in
    omega (arith, rest, count_cons p x (take i xs), count_cons p x (take j xs))

-- where none passes from a place on, those before it are all that pass
pub none_pass : {X : Type 0} (p : X → Bool) (xs : List X) (n : ℕ) → ((j : ℕ) (x : X) → n ≤ j → slice_get xs j ≡ Some x → p x ≡ false) → filter p (take n xs) ≡ filter p xs
none_pass p [] zero none = refl
none_pass p [] (suc n) none = refl
none_pass p (x ∷ xs) zero none =
    none_pass p xs zero (λ j y le is. none (suc j) y (omega arith) is) ∙ sym (cond-false (p x) (x ∷ filter p xs) (filter p xs) (none 0 x (omega arith) refl))
none_pass p (x ∷ xs) (suc n) none =
    ap (λ (ys : List _). cond (p x) (x ∷ ys) ys) (none_pass p xs n (λ j y le is. none (suc j) y (omega (arith, le)) is))
