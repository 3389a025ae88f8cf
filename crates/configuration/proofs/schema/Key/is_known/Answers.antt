use Rattle.std.proofs.Common.{◌≡◌}
use Rattle.configuration.specs.Schema.{IsKnown, key_rule_of}
use Rattle.configuration.proofs.Lists.{Any-map, Any-unmap}
use Rattle.configuration.proofs.schema.Key.is_known.Goals as goal

pub returns : goal.returns
unfolding IsKnown
returns c =
    let known = c.args.known.now in (
      (λ t. Any-map (λ key. key.name ≡ c.args.name.now) key_rule_of known (c.has_name.ensures.0 t)),
      (λ h. c.has_name.ensures.1 (Any-unmap (λ key. key.name ≡ c.args.name.now) key_rule_of known h)),
    )
