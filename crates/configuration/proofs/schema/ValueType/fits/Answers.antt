use Rattle.std.proofs.Common.{◌≡◌, ◌∙◌, All, Some, option_map, ap, subst, sym}
use Rattle.toml.specs.Data.{as_array}
use Rattle.toml.specs.View.{array_view, items_view, view}
use Rattle.configuration.proofs.TableLemmas.{IsTableValue, tables_type, type_tables}
use Rattle.configuration.proofs.schema.ValueType.fits.Goals as goal

pub returns-in-Some : goal.returns-in-Some
returns-in-Some c =
    let values = c.in-Some.items.now.items in
    let is : as_array (view c.args.value.now) ≡ Some (items_view values) =
    sym c.as_array.ensures ∙ ap (option_map (λ v. array_view v.now)) c.in-Some.is in
    let each = subst (All IsTableValue) c.as_slice.ensures.value in
    let back = subst (All IsTableValue) (sym c.as_slice.ensures.value) in
    rw c.in-Tables.is (
      (λ t. tables_type _ _ is (each (c.are_tables.ensures.0 t))),
      (λ h. c.are_tables.ensures.1 (back (type_tables _ _ is h))),
    )
