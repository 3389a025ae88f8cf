use Rattle.std.proofs.Common.{refl, inl, inr}
use Rattle.refinement.proofs.driver.ComposedMoves.{goes_access, goes_ending, goes_own, goes_still}
use Rattle.refinement.proofs.acts.law_an_access_or_own_step_is_one_act.Goals as goal

pub returns-clause-access : goal.returns-clause-access
returns-clause-access c = λ k later m access adds reached x does.
    let y = goes_access k later m adds reached x in (y.0, y.1, record { access_is_done_or_device_is_same = does; are_device_steps_then_decision = inl y.1; driver_advances = y.2 })

pub returns-clause-access_with_own_steps : goal.returns-clause-access_with_own_steps
returns-clause-access_with_own_steps c = λ k later m access own e decides does. record { access_is_done_or_device_is_same = does; are_device_steps_then_decision = inr (own, e.steps, refl, decides, e.all_steps_are_by_device); driver_advances = goes_ending k later m own e }

pub returns-clause-own : goal.returns-clause-own
returns-clause-own c = λ k later m step own may same x. record { access_is_done_or_device_is_same = same; are_device_steps_then_decision = inr (step, own, refl); driver_advances = goes_own k later m step own may same x }

pub returns-clause-same_device_is_an_act : goal.returns-clause-same_device_is_an_act
returns-clause-same_device_is_an_act c = λ k later m same x. record { access_is_done_or_device_is_same = same; are_device_steps_then_decision = inl refl; driver_advances = goes_still k later m same x }
