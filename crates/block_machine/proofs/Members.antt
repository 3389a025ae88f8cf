-- Members of lists, after a change.
use Rattle.std.proofs.Common.{◌≡◌, ◌≢◌, ◌⊎◌, ℕ, ◌<◌, Bool, true, false, cond, not, ◌==◌, List, [], ◌∷◌, ◌++◌, length, get_or, map, suc, zero, inl, inr, ⊎_elim, refl, sym, ap, ◌∙◌, arith, eqb-true}
use Rattle.std.specs.List.{Contains, filter, list_any}
use Rattle.std.proofs.lemmas.Bool.{eqb-false, or_parts, or_left, or_right, cond-true, cond-false}
use Rattle.std.proofs.lemmas.List.Elements.{Contains-append_cases}
use Rattle.ata_types.specs.declared.request.RequestId.{RequestId}
use Rattle.block_machine.specs.State.{Pending}
use Rattle.block_machine.specs.Steps.{update_pending, without_pending}

pub contains_none : {X : Type 0} (x : X) → Contains [] x → ⊥
contains_none x h = let lt = h.1 in omega (arith, lt)

pub contains_here : {X : Type 0} (y : X) (ys : List X) (x : X) → x ≡ y → Contains (y ∷ ys) x
contains_here y ys x e = (0, omega arith, sym e)

pub contains_there : {X : Type 0} (y : X) (ys : List X) (x : X) → Contains ys x → Contains (y ∷ ys) x
contains_there y ys x h = let lt = h.1 in (suc h.0, omega (arith, lt), h.2)

pub contains_cases : {X : Type 0} (y : X) (ys : List X) (x : X) → Contains (y ∷ ys) x → (x ≡ y) ⊎ Contains ys x
contains_cases {X} y ys x h = go h.0 h.1 h.2
  where
    go : (i : ℕ) → i < length (y ∷ ys) → get_or (y ∷ ys) i x ≡ x → (x ≡ y) ⊎ Contains ys x
    go zero lt e = inl (sym e)
    go (suc i) lt e = inr (i, omega (arith, lt), e)

-- a member of a list with each member changed was a member before
pub map_in : {X Y : Type 0} (f : X → Y) (xs : List X) (y : Y) → Contains (map f xs) y → (old : X) × Contains xs old × (y ≡ f old)
map_in f [] y h = absurd (contains_none y h)
map_in f (x ∷ xs) y h = ⊎_elim
    (λ p. (x, contains_here x xs x refl, p))
    (λ i. let r = map_in f xs y i in (r.0, contains_there x xs r.0 r.1, r.2))
    (contains_cases (f x) (map f xs) y h)

pub into_map : {X Y : Type 0} (f : X → Y) (xs : List X) (x : X) → Contains xs x → Contains (map f xs) (f x)
into_map f [] x h = absurd (contains_none x h)
into_map f (y ∷ ys) x h = ⊎_elim
    (λ p. contains_here (f y) (map f ys) (f x) (ap f p))
    (λ i. contains_there (f y) (map f ys) (f x) (into_map f ys x i))
    (contains_cases y ys x h)

-- what `at` leaves of a request
pub at_cases : (id : RequestId) (f : Pending → Pending) (e : Pending) → ((e.request.id.0 ≡ id.0) × (update_pending id f e ≡ f e)) ⊎ ((e.request.id.0 ≢ id.0) × (update_pending id f e ≡ e))
at_cases id f e = go (e.request.id.0 == id.0) refl
  where
    go : (b : Bool) → (e.request.id.0 == id.0) ≡ b → ((e.request.id.0 ≡ id.0) × (update_pending id f e ≡ f e)) ⊎ ((e.request.id.0 ≢ id.0) × (update_pending id f e ≡ e))
    go true p = inl (eqb-true e.request.id.0 id.0 p, cond-true (e.request.id.0 == id.0) (f e) e p)
    go false p = inr (eqb-false e.request.id.0 id.0 p, cond-false (e.request.id.0 == id.0) (f e) e p)

pub without_in : (id : RequestId) (es : List Pending) (e : Pending) → Contains (without_pending id es) e → Contains es e × (e.request.id.0 ≢ id.0)
without_in id [] e h = absurd (contains_none e h)
without_in id (x ∷ xs) e h = go (x.request.id.0 == id.0) refl (without_in id xs e) h
  where
    go : (b : Bool) → (x.request.id.0 == id.0) ≡ b → (Contains (without_pending id xs) e → Contains xs e × (e.request.id.0 ≢ id.0))
        → Contains (cond (not b) (x ∷ without_pending id xs) (without_pending id xs)) e → Contains (x ∷ xs) e × (e.request.id.0 ≢ id.0)
    go true p rest k = let r = rest k in (contains_there x xs e r.0, r.1)
    go false p rest k = ⊎_elim
        (λ (q : e ≡ x). (contains_here x xs e q, λ i. eqb-false x.request.id.0 id.0 p (ap (λ (y : Pending). y.request.id.0) (sym q) ∙ i)))
        (λ i. let r = rest i in (contains_there x xs e r.0, r.1))
        (contains_cases x (without_pending id xs) e k)

pub append_in : {X : Type 0} (xs : List X) (y x : X) → Contains (xs ++ y ∷ []) x → Contains xs x ⊎ (x ≡ y)
append_in xs y x h = ⊎_elim (λ i. inl i) (λ i. ⊎_elim (λ p. inr p) (λ n. absurd (contains_none x n)) (contains_cases y [] x i)) (Contains-append_cases xs (y ∷ []) x h)

-- no member passes
pub none_of : {X : Type 0} (p : X → Bool) (xs : List X) (x : X) → list_any p xs ≡ false → Contains xs x → p x ≡ false
none_of p [] x h i = absurd (contains_none x i)
none_of p (y ∷ ys) x h i = ⊎_elim
    (λ e. ap p e ∙ (or_parts (p y) (list_any p ys) h).0)
    (λ k. none_of p ys x (or_parts (p y) (list_any p ys) h).1 k)
    (contains_cases y ys x i)

-- a member passes
pub some_in : {X : Type 0} (p : X → Bool) (xs : List X) (x : X) → Contains xs x → p x ≡ true → list_any p xs ≡ true
some_in p [] x i h = absurd (contains_none x i)
some_in p (y ∷ ys) x i h = ⊎_elim
    (λ e. or_left (p y) (list_any p ys) (ap p (sym e) ∙ h))
    (λ k. or_right (p y) (list_any p ys) (some_in p ys x k h))
    (contains_cases y ys x i)

-- who passes a test was there, and passes it
pub filter_in : {A : Type 0} (passes : A → Bool) (xs : List A) (x : A) → Contains (filter passes xs) x → Contains xs x × (passes x ≡ true)
filter_in passes [] x h = absurd (contains_none x h)
filter_in {A} passes (y ∷ ys) x h = go (passes y) refl h (filter_in passes ys x)
  where
    go : (b : Bool) → passes y ≡ b → Contains (cond b (y ∷ filter passes ys) (filter passes ys)) x → (Contains (filter passes ys) x → Contains ys x × (passes x ≡ true)) → Contains (y ∷ ys) x × (passes x ≡ true)
    go true p k more = ⊎_elim
        (λ (q : x ≡ y). (contains_here y ys x q, ap passes q ∙ p))
        (λ i. let r = more i in (contains_there y ys x r.0, r.1))
        (contains_cases y (filter passes ys) x k)
    go false p k more = let r = more k in (contains_there y ys x r.0, r.1)
