use Rattle.std.proofs.Common.{[], ◌∷◌, refl}
use Rattle.adapter.specs.Steps.{device_after}
use Rattle.refinement.proofs.prerequisites.law_prerequisites.Goals as goal

pub returns : goal.returns
returns c = record {
  steps_keep = c.law_step_lists_keep_what_steps_keep.ensures;
  one_step_keeps = λ step d can. c.law_step_lists_keep_what_steps_keep.ensures d (device_after step d) (record { steps = step ∷ []; lead = (can, refl) });
  reading_shows_register = c.law_port_access_is_steps_then_port_effect.ensures.register_read;
  reachable_goes_on = c.law_step_lists_compose.ensures.reached;
}
