-- A row taken out by its place is a row taken out by its name.
use Rattle.std.proofs.Common.{ℕ, zero, suc, ◌≡◌, ◌==◌, ◌&&◌, ◌<◌, Bool, true, false, not, List, [], ◌∷◌, ◌++◌, map, take, drop, length, get_or, Option, Some, None, refl, sym, ap, ◌∙◌, subst, arith, eqb-true, eq-eqb}
use Rattle.std.specs.List.{AllPairs, remove, slice_get}
use Rattle.std.proofs.lemmas.Bool.{cond-true, cond-false}
use Rattle.std.proofs.lemmas.List.{drop-map, length-map, map-append, take-map}
use Rattle.std.proofs.lemmas.List.Edits.{length-remove}
use Rattle.std.proofs.lemmas.List.Quantifiers.{all_pairs_remove}
use Rattle.std.proofs.lemmas.Option.{slice_get_within, get_or_from_slice_get, same_Some}
use Rattle.ata_types.specs.declared.grant.GrantRow.{GrantRow}
use Rattle.ata_types.specs.declared.request.ClientId.{ClientId}
use Rattle.block_machine.specs.Rules.{HasGrantName, DifferInName, is_same_grant_name, without_row}
use Rattle.grants.specs.NamedRows.{IsIndexed, RowName, row_name_of, name_rank}

both : (a b : Bool) → a ≡ true → b ≡ true → (a && b) ≡ true
both a b p q = ap (λ (x : Bool). x && b) p ∙ q

under : (client : ClientId) (n : ℕ) (row : GrantRow) → HasGrantName client n row → is_same_grant_name client n row.client row.number ≡ true
under client n row named = both (row.client.0 == client.0) (row.number == n) (eq-eqb row.client.0 client.0 (ap (λ (c : ClientId). c.0) named.0)) (eq-eqb row.number n named.1)

not_under : (client : ClientId) (n : ℕ) (row : GrantRow) → (HasGrantName client n row → ⊥) → is_same_grant_name client n row.client row.number ≡ false
not_under client n row other = go (row.client.0 == client.0) (row.number == n) refl refl
  where
    client_of : ℕ → ClientId
    client_of k = record { 0 = k }

    go : (a b : Bool) → (row.client.0 == client.0) ≡ a → (row.number == n) ≡ b → is_same_grant_name client n row.client row.number ≡ false
    go true true p q = absurd (other (ap client_of (eqb-true row.client.0 client.0 p), eqb-true row.number n q))
    go true false p q = ap (λ (x : Bool). x && (row.number == n)) p ∙ q
    go false b p q = ap (λ (x : Bool). x && (row.number == n)) p

-- two rows under one name are no two that differ in name
one_name : (client : ClientId) (n : ℕ) (a b : GrantRow) → HasGrantName client n a → HasGrantName client n b → HasGrantName a.client a.number b
one_name client n a b x y = (y.0 ∙ sym x.0, y.1 ∙ sym x.1)

rest_differ : (x : GrantRow) (xs : List GrantRow) → AllPairs DifferInName (x ∷ xs) → AllPairs DifferInName xs
rest_differ x xs differ i j d lt small = differ (suc i) (suc j) d (omega (arith, lt)) (omega (arith, small))

none_under : (client : ClientId) (n : ℕ) (xs : List GrantRow) → ((k : ℕ) (d : GrantRow) → k < length xs → HasGrantName client n (get_or xs k d) → ⊥) → without_row client n xs ≡ xs
none_under client n [] none = refl
none_under client n (x ∷ xs) none =
    cond-true (not (is_same_grant_name client n x.client x.number)) (x ∷ without_row client n xs) (without_row client n xs) (ap not (not_under client n x (none 0 x (omega arith))))
    ∙ ap (λ (ys : List GrantRow). x ∷ ys) (none_under client n xs (λ k d lt. none (suc k) d (omega (arith, lt))))

pub dropped_row : (client : ClientId) (n : ℕ) (rows : List GrantRow) (place : ℕ) (row : GrantRow) → AllPairs DifferInName rows → slice_get rows place ≡ Some row → HasGrantName client n row
    → remove rows place ≡ without_row client n rows
dropped_row client n [] place row differ is named = let no : ◌≡◌ {A = Option GrantRow} None (Some row) = is in cc
dropped_row client n (x ∷ xs) zero row differ is named =
    let its : HasGrantName client n x = subst (HasGrantName client n) (sym (same_Some x row is)) named in
    sym (cond-false (not (is_same_grant_name client n x.client x.number)) (x ∷ without_row client n xs) (without_row client n xs) (ap not (under client n x its))
    ∙ none_under client n xs (λ k d lt other. differ 0 (suc k) d (omega arith) (omega (arith, lt)) (one_name client n x (get_or xs k d) its other)))
dropped_row client n (x ∷ xs) (suc place) row differ is named =
    let at : get_or xs place row ≡ row = get_or_from_slice_get xs place row row is in
    let lt = slice_get_within xs place row is in
    ap (λ (ys : List GrantRow). x ∷ ys) (dropped_row client n xs place row (rest_differ x xs differ) is named)
    ∙ sym (cond-true (not (is_same_grant_name client n x.client x.number)) (x ∷ without_row client n xs) (without_row client n xs)
    (ap not (not_under client n x (λ its. differ 0 (suc place) row (omega arith) (omega (arith, lt)) (one_name client n x (get_or xs place row) its (subst (HasGrantName client n) (sym at) named))))))

-- the names of the rows that are left are the names that are left
names_left : (rows : List GrantRow) (place : ℕ) → remove (map row_name_of rows) place ≡ map row_name_of (remove rows place)
names_left rows place =
    sym (map-append row_name_of (take place rows) (drop (suc place) rows)
    ∙ (ap (λ (names : List RowName). names ++ map row_name_of (drop (suc place) rows)) (sym (take-map row_name_of place rows))
    ∙ ap (λ (names : List RowName). take place (map row_name_of rows) ++ names) (sym (drop-map row_name_of (suc place) rows))))

-- and stand in their order
pub still_indexed : (names : List RowName) (rows : List GrantRow) (place : ℕ) → place < length rows → IsIndexed names rows → IsIndexed (remove names place) (remove rows place)
still_indexed names rows place within is = record {
  keys_are_row_names = ap (λ (xs : List RowName). remove xs place) is.keys_are_row_names ∙ names_left rows place;
  names_are_in_order = all_pairs_remove (λ a b. name_rank a < name_rank b) names place (let long = ap length is.keys_are_row_names in let same = length-map rows row_name_of in omega (arith, within, long, same)) is.names_are_in_order;
  rows_differ_in_name = all_pairs_remove DifferInName rows place within is.rows_differ_in_name;
  rows_are_at_most_64 = let few = is.rows_are_at_most_64 in let less = length-remove rows place within in omega (arith, few, less);
}
