-- Members of lists, after a change: what this crate uses of such lemmas.
use Rattle.std.proofs.Common.{ℕ, ◌≡◌, ◌≢◌, ◌⊎◌, ◌+◌, ◌==◌, ⊎_elim, ◌∙◌, Bool, true, false, cond, not, inl, inr, refl, List, [], ◌∷◌, ◌++◌, map, take, drop, sym, ap, subst, arith}
use Rattle.std.proofs.lemmas.Bool.{cases_eq, cond-true, cond-false, eq-eqb, eqb-false, false_from_ne_true, ne_eqb, not-true, true≢false}
use Rattle.std.proofs.lemmas.List.{get_or-map, length-map, take-append-drop}
use Rattle.std.proofs.lemmas.List.Elements.{All-contains, All-contains_itself, All-filter, All-map, All-weaker, Contains-append_left, Contains-push, Contains-push_cases, filter-append, filter_more, filter_passes}
use Rattle.std.proofs.lemmas.List.Folds.{list_any-from_Any}
use Rattle.std.specs.List.{Contains, filter, list_any}
use Rattle.slab.proofs.SlabLemmas.{Contains-cons, Contains-cons_cases}
use Rattle.ata_types.specs.declared.request.RequestId.{RequestId}
use Rattle.block_machine.specs.State.{Pending}
use Rattle.block_machine.specs.Steps.{update_pending, without_pending}

pub contains_here : {X : Type 0} (y : X) (ys : List X) (x : X) → x ≡ y → Contains (y ∷ ys) x
contains_here y ys x e = subst (Contains (y ∷ ys)) (sym e) (Contains-append_left (y ∷ []) ys y (Contains-push [] y))

pub contains_there : {X : Type 0} (y : X) (ys : List X) (x : X) → Contains ys x → Contains (y ∷ ys) x
contains_there y ys x h = Contains-cons y x ys h

pub contains_cases : {X : Type 0} (y : X) (ys : List X) (x : X) → Contains (y ∷ ys) x → (x ≡ y) ⊎ Contains ys x
contains_cases y ys x h = ⊎_elim (λ e. inl (sym e)) (λ later. inr later) (Contains-cons_cases y x ys h)

-- a member of a list with each member changed was a member before
pub map_in : {X Y : Type 0} (f : X → Y) (xs : List X) (y : Y) → Contains (map f xs) y → (old : X) × Contains xs old × (y ≡ f old)
map_in {X} {Y} f xs y h =
    let Was : Y → Type 0 = λ z. (old : X) × Contains xs old × (z ≡ f old) in
    All-contains Was (map f xs) y (All-map Was f xs (All-weaker (Contains xs) (λ old. Was (f old)) (λ old there. (old, there, refl)) xs (All-contains_itself xs))) h

pub into_map : {X Y : Type 0} (f : X → Y) (xs : List X) (x : X) → Contains xs x → Contains (map f xs) (f x)
into_map f xs x h =
    let lt = h.1 in
    let long = length-map xs f in
    (h.0, omega (arith, lt, long), get_or-map f xs h.0 x (f x) lt ∙ ap f h.2)

-- what `at` leaves of a request
pub at_cases : (id : RequestId) (f : Pending → Pending) (e : Pending) → ((e.request.id.0 ≡ id.0) × (update_pending id f e ≡ f e)) ⊎ ((e.request.id.0 ≢ id.0) × (update_pending id f e ≡ e))
at_cases id f e = ⊎_elim
    (λ (same : e.request.id.0 ≡ id.0). inl (same, cond-true (e.request.id.0 == id.0) (f e) e (eq-eqb e.request.id.0 id.0 same)))
    (λ (other : e.request.id.0 ≢ id.0). inr (other, cond-false (e.request.id.0 == id.0) (f e) e (ne_eqb e.request.id.0 id.0 other)))
    (cases_eq e.request.id.0 id.0)

pub append_in : {X : Type 0} (xs : List X) (y x : X) → Contains (xs ++ y ∷ []) x → Contains xs x ⊎ (x ≡ y)
append_in xs y x h = ⊎_elim (λ there. inl there) (λ e. inr (sym e)) (Contains-push_cases xs y x h)

-- a member passes
pub some_in : {X : Type 0} (p : X → Bool) (xs : List X) (x : X) → Contains xs x → p x ≡ true → list_any p xs ≡ true
some_in p xs x i h = list_any-from_Any p xs (i.0, x, i.1, i.2, h)

-- no member passes
pub none_of : {X : Type 0} (p : X → Bool) (xs : List X) (x : X) → list_any p xs ≡ false → Contains xs x → p x ≡ false
none_of p xs x h i = false_from_ne_true (p x) (λ passes. true≢false (sym (some_in p xs x i passes) ∙ h))

-- what passes is kept, and what is kept passes
pub in_filter : {X : Type 0} (p : X → Bool) (xs : List X) (x : X) → Contains xs x → p x ≡ true → Contains (filter p xs) x
in_filter {X} p xs x here passes =
    subst (λ (list : List X). Contains list x) (sym (filter-append p until after) ∙ ap (filter p) (take-append-drop (here.0 + 1) xs))
    (Contains-append_left (filter p until) (filter p after) x (subst (λ (list : List X). Contains list x) (sym last) (Contains-push (filter p (take here.0 xs)) x)))
  where
    until : List X
    until = take (here.0 + 1) xs

    after : List X
    after = drop (here.0 + 1) xs

    -- up to its place, it is what the test lets through last
    last : filter p until ≡ filter p (take here.0 xs) ++ x ∷ []
    last =
        filter_more p xs here.0 x here.1
        ∙ ap (λ (rest : List X). filter p (take here.0 xs) ++ rest) (ap (λ (z : X). cond (p z) (z ∷ []) []) here.2 ∙ cond-true (p x) (x ∷ []) [] passes)

pub filter_in : {X : Type 0} (p : X → Bool) (xs : List X) (x : X) → Contains (filter p xs) x → Contains xs x × (p x ≡ true)
filter_in p xs x h =
    (All-contains (Contains xs) (filter p xs) x (All-filter p (Contains xs) xs (All-contains_itself xs)) h, All-contains (λ z. p z ≡ true) (filter p xs) x (filter_passes p xs) h)

-- another request than the one that goes stays, and no other does
pub without_in : (id : RequestId) (es : List Pending) (e : Pending) → Contains (without_pending id es) e → Contains es e × (e.request.id.0 ≢ id.0)
without_in id es e h =
    let kept = filter_in (λ x. not (x.request.id.0 == id.0)) es e h in
    (kept.0, eqb-false e.request.id.0 id.0 (not-true (e.request.id.0 == id.0) kept.1))

pub without_into : (id : RequestId) (es : List Pending) (e : Pending) → e.request.id ≢ id → Contains es e → Contains (without_pending id es) e
without_into id es e ne here =
    in_filter (λ x. not (x.request.id.0 == id.0)) es e here (ap not (ne_eqb e.request.id.0 id.0 (λ same. ne (ap (λ (n : ℕ). record { 0 = n }) same))))
