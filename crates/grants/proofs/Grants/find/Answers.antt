use Rattle.std.proofs.Common.{List, subst, ◌∙◌}
use Rattle.ata_types.specs.declared.grant.GrantRow.{GrantRow}
use Rattle.grants.specs.NamedRows.{IsRowPlace}
use Rattle.grants.proofs.RowLemmas.{row_at}
use Rattle.grants.proofs.Grants.find.Goals as goal

pub returns-clause-place : goal.returns-clause-place
returns-clause-place c =
    let P : List GrantRow → Type 0 = λ rows. IsRowPlace c.args.client c.args.number rows c.find_key.result in
    subst P c.self.view_is (row_at c.as_slice.result.now c.self.inside.rows.items (c.as_slice.ensures.value ∙ c.self.invariant.keys_are_row_names) c.args.client c.args.number c.find_key.result c.find_key.ensures.place)
