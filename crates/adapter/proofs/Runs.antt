-- Lists of steps, one after another.
use Rattle.std.proofs.Common.{◌≡◌, refl, subst, List, [], ◌∷◌, ◌++◌}
use Rattle.adapter.specs.Device.{Device}
use Rattle.adapter.specs.Steps.{DeviceTransition, Can, device_after, TransitionsLead, Steps}

pub Steps-refl : (d : Device) → Steps d d
Steps-refl d = record { steps = []; lead = refl }

-- one step
pub Steps-one : (step : DeviceTransition) (old new : Device) → Can step old → new ≡ device_after step old → Steps old new
Steps-one step old new can e = record { steps = step ∷ []; lead = (can, e) }

leads_append : (first then : List DeviceTransition) (old mid new : Device) → TransitionsLead first old mid → TransitionsLead then mid new → TransitionsLead (first ++ then) old new
leads_append [] then old mid new e rest = let P : Device → Type 0 = λ d. TransitionsLead then d new in subst P e rest
leads_append (step ∷ steps) then old mid new (can, first) rest = (can, leads_append steps then (device_after step old) mid new first rest)

pub Steps-trans : {old mid new : Device} → Steps old mid → Steps mid new → Steps old new
Steps-trans {old} {mid} {new} a b = record { steps = a.steps ++ b.steps; lead = leads_append a.steps b.steps old mid new a.lead b.lead }
