use Rattle.std.proofs.lemmas.List.Elements.{All-map}
use Rattle.toml.specs.View.{table_view}
use Rattle.configuration.specs.Schema.{HasItsTypeIfPresent, HasTypes, key_rule_of}
use Rattle.configuration.proofs.Lists.{All-unmap}
use Rattle.configuration.proofs.schema.Key.have_types_in.Goals as goal

pub returns : goal.returns
unfolding HasTypes
returns c =
    let P = HasItsTypeIfPresent (table_view c.args.table.now) in
    let each = c.have_their_types.ensures in
    ((λ t. All-map P key_rule_of c.args.keys.now (each.0 t)), (λ h. each.1 (All-unmap P key_rule_of c.args.keys.now h)))
