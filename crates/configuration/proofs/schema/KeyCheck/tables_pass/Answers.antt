use Rattle.std.proofs.Common.{All, ap, map, subst, sym}
use Rattle.configuration.specs.Schema.{Passes, key_rule_of}
use Rattle.configuration.specs.TomlTables.{tables_of}
use Rattle.configuration.proofs.TableLemmas.{All-tables, tables-All}
use Rattle.configuration.proofs.schema.KeyCheck.tables_pass.Goals as goal

pub returns : goal.returns
returns c =
    let P = Passes c.args.self (map key_rule_of c.args.keys.now) in
    let each = c.items_pass.ensures in
    let items = c.items_at.result.now in
    let at = ap tables_of c.items_at.ensures in (
      (λ t. subst (All P) at (All-tables P items (each.0 t))),
      (λ h. each.1 (tables-All P items (subst (All P) (sym at) h))),
    )
