-- The row of a name.
use Rattle.std.proofs.Common.{◌≡◌, ℕ, ◌<◌, ◌∙◌, List, map, length, get_or, Option, None, Some, ◌↔◌, inl, inr, refl, sym, ap, ap₂, subst, false, arith}
use Rattle.std.specs.List.{All, AllPairs, Contains, slice_get}
use Rattle.std.specs.Option.{option_map}
use Rattle.std.specs.List.Sorted.{IsPermutation, IsNonDecreasingBy}
use Rattle.std.proofs.lemmas.Bool.{cases_eq}
use Rattle.std.proofs.lemmas.List.{get_or-map, length-map}
use Rattle.std.proofs.lemmas.List.Sorted.{IsPermutation-sym, Contains-permutation}
use Rattle.std.proofs.lemmas.Option.{same_Some, slice_get-map, slice_get_within, get_or_from_slice_get}
use Rattle.ata_types.specs.declared.grant.GrantRow.{GrantRow}
use Rattle.ata_types.specs.declared.request.ClientId.{ClientId}
use Rattle.block_machine.specs.Rules.{HasGrantName, DifferInName}
use Rattle.block_machine.proofs.RuleLemmas.{one_row}
use Rattle.grants.specs.NamedRows.{RowName, row_name_of, name_rank, AreInOrder, HasRowAt, IsPlaceOf, IsRowPlace}
use Rattle.grants.specs.Rows.{SameRows}
use Rattle.grants.proofs.PermutedPairs.{permuted_pairs}

-- of rows that differ in name, the one at the place of a name is the only one of that name
pub found_row : (kept rows : List GrantRow) → kept ≡ rows → AllPairs DifferInName kept → (client : ClientId) (n i : ℕ) (d found : GrantRow)
    → found ≡ get_or kept i d → HasRowAt client n rows i
    → (row : GrantRow) → (Some found ≡ Some row) ↔ (Contains rows row × HasGrantName client n row)
found_row kept rows view differ client n i d found is at row = (
  λ e. let same : found ≡ row = same_Some _ _ e in (subst (Contains rows) same there, subst (HasGrantName client n) same named),
  λ w. ap Some (one_row rows (subst (AllPairs DifferInName) view differ) client n found row there named w.0 w.1),
)
  where
    same : at.0 ≡ found
    same = sym (get_or_from_slice_get rows i at.0 d at.1) ∙ sym (is ∙ ap (λ (rs : List GrantRow). get_or rs i d) view)

    there : Contains rows found
    there = subst (Contains rows) same (i, slice_get_within rows i at.0 at.1, get_or_from_slice_get rows i at.0 at.0 at.1)

    named : HasGrantName client n found
    named = subst (HasGrantName client n) same at.2

-- a row's name is among the rows' names
named_in : (rows : List GrantRow) (row : GrantRow) → Contains rows row → Contains (map row_name_of rows) (row_name_of row)
named_in rows row there = (there.0, omega (arith, there.1, length-map rows row_name_of), get_or-map row_name_of rows there.0 row (row_name_of row) there.1 ∙ ap row_name_of there.2)

-- the row at the place of its name
pub row_at : (names : List RowName) (rows : List GrantRow) → names ≡ map row_name_of rows → (client : ClientId) (n : ℕ) (place : Option ℕ)
    → IsPlaceOf (client, n) names place → IsRowPlace client n rows place
row_at names rows keys client n None none = λ row there named.
    let name : row_name_of row ≡ (client, n) = ap₂ (λ (x : ClientId) (y : ℕ). (x, y)) named.0 named.1 in
    none (subst (Contains names) name (subst (λ (xs : List RowName). Contains xs (row_name_of row)) (sym keys) (named_in rows row there)))
row_at names rows keys client n (Some i) at = by (slice_get rows i) refl (sym (slice_get-map row_name_of rows i) ∙ (ap (λ (xs : List RowName). slice_get xs i) (sym keys) ∙ at))
  where
    by : (o : Option GrantRow) → slice_get rows i ≡ o → option_map row_name_of o ≡ Some (client, n) → HasRowAt client n rows i
    by None e h = absurd (cc)
    by (Some row) e h = (row, e, (ap (λ (x : RowName). x.0) (same_Some _ _ h), ap (λ (x : RowName). x.1) (same_Some _ _ h)))

differ_back : (a b : GrantRow) → DifferInName a b → DifferInName b a
differ_back a b differ same = differ (sym same.0, sym same.1)

-- sorted rows have the names and the rows that they had
pub sorted_differ : (old new : List GrantRow) → IsPermutation old new → AllPairs DifferInName old → AllPairs DifferInName new
sorted_differ old new moved differ = permuted_pairs DifferInName differ_back old new moved differ

pub sorted_same : (old new : List GrantRow) → IsPermutation old new → SameRows old new
sorted_same old new moved = (λ row there. Contains-permutation old new row moved there, λ row there. Contains-permutation new old row (IsPermutation-sym old new moved) there)

-- rows that are sorted by rank, no two of one name, have rising ranks
pub in_order : (rows : List GrantRow) (names : List RowName) → names ≡ map row_name_of rows → IsNonDecreasingBy (λ row. name_rank (row_name_of row)) rows
    → AllPairs DifferInName rows → All (λ name. name.1 < 256) names → AreInOrder names
in_order rows names keys rising differ small i j d less within = elim (cases_eq (name_rank (get_or names i d)) (name_rank (get_or names j d))) [
  | inl same ↦ absurd (differ i j row less in_rows (client same, number same))
  | inr not ↦ let up = rising i j row (omega arith) in_rows in let a = ap name_rank first in let b = ap name_rank second in omega (arith, up, a, b)
]
  where
    row : GrantRow
    row = record { client = d.0; number = d.1; port = record { 0 = 0 }; first = record { 0 = 0 }; count = 0; rights = record { read = false; write = false; trim = false; flush = false } }

    in_rows : j < length rows
    in_rows = omega (arith, within, ap length keys, length-map rows row_name_of)

    is : (k : ℕ) → k < length rows → get_or names k d ≡ row_name_of (get_or rows k row)
    is k lt = ap (λ (xs : List RowName). get_or xs k d) keys ∙ get_or-map row_name_of rows k row d lt

    first : get_or names i d ≡ row_name_of (get_or rows i row)
    first = is i (let h = in_rows in omega (arith, h))

    second : get_or names j d ≡ row_name_of (get_or rows j row)
    second = is j in_rows

    number : name_rank (get_or names i d) ≡ name_rank (get_or names j d) → (get_or rows j row).number ≡ (get_or rows i row).number
    number same =
        let x = small i d (omega arith) in
        let y = small j d within in
        let e : (get_or names j d).1 ≡ (get_or names i d).1 = omega (arith, same, x, y) in
        sym (ap (λ (n : RowName). n.1) second) ∙ (e ∙ ap (λ (n : RowName). n.1) first)

    client : name_rank (get_or names i d) ≡ name_rank (get_or names j d) → (get_or rows j row).client ≡ (get_or rows i row).client
    client same =
        let x = small i d (omega arith) in
        let y = small j d within in
        let e : (get_or names j d).0.0 ≡ (get_or names i d).0.0 = omega (arith, same, x, y) in
        sym (ap (λ (n : RowName). n.0) second) ∙ (ap (λ (n : ℕ). record { 0 = n }) e ∙ ap (λ (n : RowName). n.0) first)
