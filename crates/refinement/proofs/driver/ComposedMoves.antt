-- A driver's moves, in the one form that composes.
use Rattle.std.proofs.Common.{◌≡◌, ◌++◌, List, [], ◌∷◌, sym, subst}
use Rattle.adapter.specs.Device.{Device}
use Rattle.block_machine.specs.Events.{IsByDevice, AllByDevice, AllEnabled}
use Rattle.block_machine.specs.Histories.{IsReachable, IsSimulatedBySteps}
use Rattle.block_machine.specs.Expected.{after}
use Rattle.block_machine.specs.State.{Machine}
use Rattle.block_machine.specs.Steps.{Step, IsEnabled, after_step}
use Rattle.block_machine.proofs.EventLemmas.{after-append}
use Rattle.block_machine.proofs.EventLemmas.{enabled_histories_join}
use Rattle.block_machine.proofs.HistoryLemmas.{reached_more}
use Rattle.refinement.specs.Driver.{DriverState, DriverRelation, TapeBacksSteps, IsBackedByDeviceAlone, EndsInOwnStepsAfterDeviceSteps, DriverAdvances}
use Rattle.refinement.specs.Simulation.{SimulatesSteps}
use Rattle.refinement.proofs.driver.AddedSteps.{backed_then, nothing_backed, knowing_goes_on}
use Rattle.refinement.proofs.driver.IssueWrite.{own_backed}

-- what is backed for one device is for the same one
backed_same : (d new : Device) (m : Machine) (steps : List Step) → new ≡ d → TapeBacksSteps d d m steps → TapeBacksSteps d new m steps
backed_same d new m steps same b = subst (λ (x : Device). TapeBacksSteps d x m steps) (sym same) b

pub goes_still : (k later : DriverState) (m : Machine) → later.device ≡ k.device → DriverRelation m later → DriverAdvances k m [] later
goes_still k later m same x = record { steps_are_enabled = tt; is_backed = backed_same k.device later.device m [] same (nothing_backed k.device m); driver_relation = x }

pub goes_none : (k : DriverState) (m : Machine) → DriverRelation m k → DriverAdvances k m [] k
goes_none k m x = record { steps_are_enabled = tt; is_backed = nothing_backed k.device m; driver_relation = x }

pub goes_more : (a b c : DriverState) (m : Machine) (early late : List Step) → DriverAdvances a m early b → DriverAdvances b (after m early) late c → DriverAdvances a m (late ++ early) c
goes_more a b c m early late x y = record {
  steps_are_enabled = enabled_histories_join m late early x.steps_are_enabled y.steps_are_enabled;
  is_backed = backed_then a.device b.device c.device m early late x.is_backed y.is_backed;
  driver_relation = subst (λ (n : Machine). DriverRelation n c) (sym (after-append m late early)) y.driver_relation;
}

pub goes_own : (k later : DriverState) (m : Machine) (step : Step) → (IsByDevice step → ⊥) → IsEnabled m step → later.device ≡ k.device → DriverRelation (after_step m step) later → DriverAdvances k m (step ∷ []) later
goes_own k later m step own may same x = record { steps_are_enabled = (tt, may); is_backed = backed_same k.device later.device m (step ∷ []) same (own_backed k.device m step own); driver_relation = x }

pub goes_device : (k later : DriverState) (m : Machine) (steps : List Step) → AllEnabled m steps → IsBackedByDeviceAlone k.device later.device m steps → DriverRelation (after m steps) later → DriverAdvances k m steps later
goes_device k later m steps may by x = record { steps_are_enabled = may; is_backed = by.is_backed; driver_relation = x }

pub goes_following : (k : DriverState) (m : Machine) (new : Device) → DriverRelation m k → (f : SimulatesSteps k.slot_states m k.device new) → DriverAdvances k m f.steps (record k { device = new })
goes_following k m new x f = let y = knowing_goes_on k m new x f in goes_device k (record k { device = new }) m f.steps f.steps_are_enabled y.1 y.0

pub goes_ending : (k later : DriverState) (m : Machine) (own : List Step) → (e : EndsInOwnStepsAfterDeviceSteps k m own later) → DriverAdvances k m (own ++ e.steps) later
goes_ending k later m own e = record { steps_are_enabled = e.steps_are_enabled; is_backed = e.is_backed; driver_relation = e.driver_relation }

pub goes_access : (k later : DriverState) (m : Machine) → IsSimulatedBySteps DriverRelation k later (IsBackedByDeviceAlone k.device later.device) → IsReachable m → DriverRelation m k → (steps : List Step) × AllByDevice steps × DriverAdvances k m steps later
goes_access k later m adds reached x = let y = adds.simulates m reached x in (y.0, y.3.all_steps_are_by_device, goes_device k later m y.0 y.1 y.3 y.2)

pub goes_part : (k later : DriverState) (m : Machine) → IsSimulatedBySteps DriverRelation k later (TapeBacksSteps k.device later.device) → IsReachable m → DriverRelation m k → (steps : List Step) × DriverAdvances k m steps later
goes_part k later m adds reached x = let y = adds.simulates m reached x in (y.0, record { steps_are_enabled = y.1; is_backed = y.3; driver_relation = y.2 })

pub going_adds : (k later : DriverState) → ((m : Machine) → IsReachable m → DriverRelation m k → (steps : List Step) × DriverAdvances k m steps later) → IsSimulatedBySteps DriverRelation k later (TapeBacksSteps k.device later.device)
going_adds k later go = record { simulates = λ m reached x. let y = go m reached x in (y.0, y.1.steps_are_enabled, y.1.driver_relation, y.1.is_backed) }

pub going_reaches : (k later : DriverState) (m : Machine) (steps : List Step) → IsReachable m → DriverAdvances k m steps later → IsReachable (after m steps)
going_reaches k later m steps reached g = reached_more m steps reached g.steps_are_enabled
