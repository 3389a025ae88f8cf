-- A table of the code beside the members that it stands for.
use Rattle.std.proofs.Common.{◌≡◌, ◌∙◌, ℕ, List, [], ◌∷◌, Some, IfSome, IsSome, String, Global, All, map, string_bytes, refl, ap, sym, subst}
use Rattle.std.proofs.lemmas.List.Elements.{All-cons, All-head, All-map, All-nil, All-tail}
use Rattle.std.specs.Map.{keys_of}
use Rattle.toml.specs.Data.{Data, Members, as_array, as_table}
use Rattle.toml.specs.View.{view, items_view, members_view}
use Rattle.toml.specs.declared.value.Value.{Value}
use Rattle.configuration.specs.declared.schema.ValueType.TheVariants.{Tables}
use Rattle.configuration.specs.Schema.{AreTables, HasType}
use Rattle.configuration.specs.TomlTables.{names_of, tables_of}
use Rattle.configuration.proofs.Lists.{All-cons_option, All-unmap, cons_option-All}

names_of-view : (es : List (String Global × Value)) → names_of (members_view es) ≡ map string_bytes (keys_of es)
names_of-view [] = refl
names_of-view (e ∷ es) = ap (λ ns. string_bytes e.0 ∷ ns) (names_of-view es)

-- a fact of each key is one of each name
pub All-names : (P : List ℕ → Type 0) (es : List (String Global × Value))
    → All (λ k. P (string_bytes k)) (keys_of es) → All P (names_of (members_view es))
All-names P es h = subst (All P) (sym (names_of-view es)) (All-map P string_bytes (keys_of es) h)

pub names-All : (P : List ℕ → Type 0) (es : List (String Global × Value))
    → All P (names_of (members_view es)) → All (λ k. P (string_bytes k)) (keys_of es)
names-All P es h = All-unmap P string_bytes (keys_of es) (subst (All P) (names_of-view es) h)

abbrev pub IsTableSo : (Members → Type 0) → Value → Type 0
IsTableSo P v = IfSome (as_table (view v)) P

-- a fact of each value that is a table is one of each table
pub All-tables : (P : Members → Type 0) (vs : List Value)
    → All (λ v. IfSome (as_table (view v)) P) vs → All P (tables_of (items_view vs))
All-tables P [] h = All-nil P
All-tables P (v ∷ vs) h =
    All-cons_option P (as_table (view v)) (tables_of (items_view vs)) (All-head (IsTableSo P) v vs h)
    (All-tables P vs (All-tail (IsTableSo P) v vs h))

pub tables-All : (P : Members → Type 0) (vs : List Value)
    → All P (tables_of (items_view vs)) → All (λ v. IfSome (as_table (view v)) P) vs
tables-All P [] h = All-nil (IsTableSo P)
tables-All P (v ∷ vs) h =
    let both = cons_option-All P (as_table (view v)) (tables_of (items_view vs)) h in
    All-cons (IsTableSo P) v vs both.0 (tables-All P vs both.1)

abbrev pub IsTableValue : Value → Type 0
IsTableValue v = IsSome (as_table (view v))

are_tables : (vs : List Value) → All IsTableValue vs → AreTables (items_view vs)
are_tables [] h = tt
are_tables (v ∷ vs) h = (All-head IsTableValue v vs h, are_tables vs (All-tail IsTableValue v vs h))

tables_are : (vs : List Value) → AreTables (items_view vs) → All IsTableValue vs
tables_are [] h = All-nil IsTableValue
tables_are (v ∷ vs) h = All-cons IsTableValue v vs h.0 (tables_are vs h.1)

-- an array of values is of the type just where each value is a table
pub tables_type : (d : Data) (vs : List Value)
    → as_array d ≡ Some (items_view vs) → All IsTableValue vs → HasType Tables d
tables_type d vs is h = (items_view vs, is, are_tables vs h)

pub type_tables : (d : Data) (vs : List Value)
    → as_array d ≡ Some (items_view vs) → HasType Tables d → All IsTableValue vs
type_tables d vs is h =
    let both = sym is ∙ h.1 in
    let same : items_view vs ≡ h.0 = cc in
    tables_are vs (subst AreTables (sym same) h.2)
