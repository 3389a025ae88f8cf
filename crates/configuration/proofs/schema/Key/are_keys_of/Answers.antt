use Rattle.std.proofs.Common.{◌∙◌, map, sym}
use Rattle.std.proofs.lemmas.List.Elements.{All-map}
use Rattle.toml.specs.View.{table_view}
use Rattle.configuration.specs.Schema.{HasRequiredAndOnlyKnownKeys, IsKnown, IsPresentIfRequired, key_rule_of}
use Rattle.configuration.proofs.Lists.{All-unmap}
use Rattle.configuration.proofs.TableLemmas.{All-names, names-All}
use Rattle.configuration.proofs.schema.Key.are_keys_of.Goals as goal

pub returns-then-are_present : goal.returns-then-are_present
unfolding HasRequiredAndOnlyKnownKeys
returns-then-are_present c =
    let P = IsPresentIfRequired (table_view c.args.table.now) in
    let K = IsKnown (map key_rule_of c.args.keys.now) in
    let names = c.args.table.now.entries in (
      (λ t. (
        All-map P key_rule_of c.args.keys.now (c.are_present.ensures.0 c.if-are_present.true),
        All-names K names (c.know_all.ensures.0 t),
      )),
      (λ h. c.know_all.ensures.1 (names-All K names h.1)),
    )

pub returns-else-are_present : goal.returns-else-are_present
unfolding HasRequiredAndOnlyKnownKeys
returns-else-are_present c =
    let P = IsPresentIfRequired (table_view c.args.table.now) in (
      (λ t. let both = sym c.if-are_present.false ∙ t in let none : ⊥ = cc in absurd none),
      (λ h. c.are_present.ensures.1 (All-unmap P key_rule_of c.args.keys.now h.0)),
    )
