-- A device's step adds an event, whether it was done or not.
use Rattle.std.proofs.Common.{◌≡◌, Bool, true, false, refl, sym, subst}
use Rattle.adapter.specs.AskedSteps.{DoesOrFailsStep}
use Rattle.adapter.specs.Device.{Device}
use Rattle.adapter.specs.Steps.{Steps}
use Rattle.adapter.specs.declared.access.DeviceStep.{DeviceStep}
use Rattle.block_machine.specs.Events.{StepDevice, Stepped}
use Rattle.server_history.specs.Histories.{ExtendsAndHasInvariantByStuck, ExtendsHistory, InvariantBetweenCalls}
use Rattle.server_history.specs.ServerState.{ServerState}

-- given that a step that was done adds an event, and that one that was left does
module _ (done_adds : (stuck : Bool) (s : ServerState) (new : Device) (step : DeviceStep) → InvariantBetweenCalls stuck s → DoesOrFailsStep step s.device new → Steps s.device new
    → ExtendsAndHasInvariantByStuck stuck s (record s { device = new }) (StepDevice step) (Stepped true))
    (left_adds : (stuck : Bool) (s : ServerState) (step : DeviceStep) → InvariantBetweenCalls stuck s → ExtendsHistory s s (StepDevice step) (Stepped false)) where
  pub step_adds : (stuck : Bool) (s : ServerState) (new : Device) (step : DeviceStep) (done : Bool) → InvariantBetweenCalls stuck s → (done ≡ true → DoesOrFailsStep step s.device new) → Steps s.device new
      → (done ≡ false → new ≡ s.device) → ExtendsAndHasInvariantByStuck stuck s (record s { device = new }) (StepDevice step) (Stepped done)
  step_adds stuck s new step true k asked steps refused = done_adds stuck s new step k (asked refl) steps
  step_adds stuck s new step false k asked steps refused =
      subst (λ (d : Device). ExtendsAndHasInvariantByStuck stuck s (record s { device = d }) (StepDevice step) (Stepped false)) (sym (refused refl)) (k, left_adds stuck s step k)
