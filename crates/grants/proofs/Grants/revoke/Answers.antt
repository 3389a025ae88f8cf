use Rattle.std.proofs.Common.{◌≡◌, ◌<◌, ◌∙◌, List, Some, length, refl, sym, ap, subst, arith}
use Rattle.std.specs.List.{slice_get}
use Rattle.std.proofs.lemmas.List.{length-map}
use Rattle.std.proofs.lemmas.Option.{slice_get_within, get_or_from_slice_get}
use Rattle.ata_types.specs.declared.grant.GrantRow.{GrantRow}
use Rattle.block_machine.specs.Rules.{HasGrantName, without_row}
use Rattle.grants.specs.NamedRows.{row_name_of}
use Rattle.grants.proofs.Revoking.{dropped_row, still_indexed}
use Rattle.grants.proofs.Grants.revoke.Goals as goal

pub returns-in_err-place-clause-absent_changes_nothing : goal.returns-in_err-place-clause-absent_changes_nothing
returns-in_err-place-clause-absent_changes_nothing c none = (refl, λ has. c.in_err-place.ensures.place has.0 has.1 has.2)

pub remove-requires : goal.remove-requires
remove-requires c =
    let at = c.in_ok-place.ensures.place in
    let within = slice_get_within c.args.self.now c.in_ok-place.place at.0 at.1 in
    let rows = ap length c.self.view_is in
    let keys = ap length c.self.invariant.keys_are_row_names ∙ length-map c.self.inside.rows.items row_name_of in
    omega (arith, within, rows, keys)

pub remove-row-requires : goal.remove-row-requires
remove-row-requires c =
    let at = c.in_ok-place.ensures.place in
    let within = slice_get_within c.args.self.now c.in_ok-place.place at.0 at.1 in
    let rows = ap length c.self.view_is in
    omega (arith, within, rows)

pub invariant_of-self : goal.invariant_of-self
invariant_of-self c =
    let at = c.in_ok-place.ensures.place in
    let within : c.in_ok-place.place < length c.self.inside.rows.items =
    subst (λ (rows : List GrantRow). c.in_ok-place.place < length rows) (sym c.self.view_is) (slice_get_within c.args.self.now c.in_ok-place.place at.0 at.1) in
    rw (c.remove.ensures.items, c.remove-row.ensures.items) (still_indexed c.self.inside.keys.items c.self.inside.rows.items c.in_ok-place.place within c.self.invariant)

pub returns-clause-found : goal.returns-clause-found
returns-clause-found c =
    let at = c.in_ok-place.ensures.place in
    let rows = c.args.self.now in
    let place = c.in_ok-place.place in
    let inner : slice_get c.self.inside.rows.items place ≡ Some at.0 = subst (λ (rs : List GrantRow). slice_get rs place ≡ Some at.0) (sym c.self.view_is) at.1 in
    let is : c.remove-row.result ≡ at.0 = c.remove-row.ensures.value ∙ get_or_from_slice_get c.self.inside.rows.items place at.0 c.remove-row.result inner in (
      (place, slice_get_within rows place at.0 at.1, get_or_from_slice_get rows place at.0 c.remove-row.result at.1 ∙ sym is),
      subst (HasGrantName c.args.client c.args.number) (sym is) at.2,
      c.remove-row.ensures.items ∙ dropped_row c.args.client c.args.number c.self.inside.rows.items place at.0 c.self.invariant.rows_differ_in_name inner at.2
          ∙ ap (λ (rs : List GrantRow). without_row c.args.client c.args.number rs) c.self.view_is,
    )
