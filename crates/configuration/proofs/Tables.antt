-- The tables of a list, one value further.
use Rattle.std.proofs.Common.{◌≡◌, ◌∙◌, ◌<◌, ◌+◌, ◌++◌, ℕ, zero, suc, List, [], ◌∷◌, Option, Some, None, length, slice_index_or, take, ap, arith, refl, subst}
use Rattle.std.proofs.lemmas.List.{take_more}
use Rattle.std.specs.List.{AllZip, cons_option}
use Rattle.toml.proofs.Views.{items_view-push}
use Rattle.toml.specs.Data.{Data, Items, Members, no_items, item, as_table, push_item}
use Rattle.toml.specs.View.{view, items_view}
use Rattle.toml.specs.declared.value.Value.{Value}
use Rattle.configuration.specs.TomlTables.{tables_of}

cons_option-append : {X : Type 0} (o : Option X) (xs ys : List X) → cons_option o (xs ++ ys) ≡ cons_option o xs ++ ys
cons_option-append None xs ys = refl
cons_option-append (Some x) xs ys = refl

tables_of-push : (items : Items) (d : Data)
    → tables_of (push_item items d) ≡ tables_of items ++ cons_option (as_table d) []
tables_of-push no_items d = refl
tables_of-push (item e rest) d =
    ap (cons_option (as_table e)) (tables_of-push rest d)
    ∙ cons_option-append (as_table e) (tables_of rest) (cons_option (as_table d) [])

-- the tables among one value more
pub tables-more : (vs : List Value) (k : ℕ) (v : Value) → k < length vs → slice_index_or vs k v ≡ v
    → tables_of (items_view (take (k + 1) vs))
    ≡ tables_of (items_view (take k vs)) ++ cons_option (as_table (view v)) []
tables-more vs k v lt is =
    ap (λ ws. tables_of (items_view ws)) (take_more vs k v lt ∙ ap (λ w. take k vs ++ w ∷ []) is)
    ∙ ap tables_of (items_view-push (take k vs) v) ∙ tables_of-push (items_view (take k vs)) (view v)

first_spells : {X : Type 0} (R : Members → X → Type 0) (o : Option Members) (rest : List Members) (xs : List X)
    (m : Members)
    → AllZip R (cons_option o rest) xs → o ≡ Some m → (x : X) × R m x
first_spells R None rest xs m h is = let none : ⊥ = cc in absurd none
first_spells R (Some n) rest [] m h is = absurd h
first_spells R (Some n) rest (x ∷ xs) m h is = let same : n ≡ m = cc in (x, subst (λ p. R p x) same h.0)

later_spell : {X : Type 0} (R : Members → X → Type 0) (o : Option Members) (rest : List Members) (xs : List X)
    → AllZip R (cons_option o rest) xs → (ys : List X) × AllZip R rest ys
later_spell R None rest xs h = (xs, h)
later_spell R (Some n) rest [] h = absurd h
later_spell R (Some n) rest (x ∷ xs) h = (xs, h.1)

-- where the tables among some values spell something, each of them does
pub table-spells : {X : Type 0} (R : Members → X → Type 0) (vs : List Value) (xs : List X) (k : ℕ) (v : Value)
    (m : Members) → AllZip R (tables_of (items_view vs)) xs → k < length vs
    → as_table (view (slice_index_or vs k v)) ≡ Some m → (x : X) × R m x
table-spells R [] xs k v m h lt is = absurd (omega arith)
table-spells R (w ∷ vs) xs zero v m h lt is = first_spells R (as_table (view w)) (tables_of (items_view vs)) xs m h is
table-spells R (w ∷ vs) xs (suc k) v m h lt is =
    let later = later_spell R (as_table (view w)) (tables_of (items_view vs)) xs h in
    table-spells R vs later.0 k v m later.1 (omega arith) is
