-- What the device does by itself switches no adapter on.
use Rattle.std.proofs.Common.{List, [], ◌∷◌, subst}
use Rattle.std.proofs.lemmas.Bool.{false≢true}
use Rattle.adapter.specs.Device.{Device}
use Rattle.adapter.specs.Rules.{IsOn}
use Rattle.adapter.specs.Steps.{DeviceTransition, TransitionsLead, device_after}
use Rattle.adapter.specs.Steps.DeviceTransition.{ResetEnds}

one_was_on : (step : DeviceTransition) (d : Device) → IsOn (device_after step d) → IsOn d
one_was_on ResetEnds d on = absurd (false≢true on.ae_is_set)
one_was_on step d on = record { ae_is_set = on.ae_is_set; no_reset = on.no_reset }

pub was_on : (steps : List DeviceTransition) (old new : Device) → TransitionsLead steps old new → IsOn new → IsOn old
was_on [] old new same on = subst IsOn same on
was_on (step ∷ steps) old new (can, more) on = one_was_on step old (was_on steps (device_after step old) new more on)
