-- Parts of a call, one after the other.
use Rattle.std.proofs.Common.{List, [], ◌∷◌, ◌++◌, sym, ap, ◌∙◌, subst}
use Rattle.block_machine.specs.State.{Machine}
use Rattle.block_machine.specs.Steps.{Step, IsEnabled}
use Rattle.block_machine.specs.Expected.{after}
use Rattle.block_machine.specs.Events.{AllEnabled}
use Rattle.block_machine.specs.Histories.{IsReachable, IsSimulatedBySteps}
use Rattle.block_machine.proofs.EventLemmas.{after-append, enabled_histories_join}

pub reached_more : (m : Machine) (steps : List Step) → IsReachable m → AllEnabled m steps → IsReachable (after m steps)
reached_more m steps r a = record {
  initial_machine = r.initial_machine;
  steps_since = steps ++ r.steps_since;
  is_initial = r.is_initial;
  steps_since_are_enabled = enabled_histories_join r.initial_machine steps r.steps_since r.steps_since_are_enabled (subst (λ (x : Machine). AllEnabled x steps) r.leads_to_machine a);
  leads_to_machine = ap (λ (x : Machine). after x steps) r.leads_to_machine ∙ sym (after-append r.initial_machine steps r.steps_since);
}

-- one part of a call, and then another
pub steps_then : {S : Type 0} {Fits : Machine → S → Type 0} {a b c : S} {P Q : Machine → List Step → Type 0} (R : Machine → List Step → Type 0)
    → IsSimulatedBySteps Fits a b P → IsSimulatedBySteps Fits b c Q → ((m : Machine) (early late : List Step) → P m early → Q (after m early) late → R m (late ++ early)) → IsSimulatedBySteps Fits a c R
steps_then {S} {Fits} {a} {b} {c} R ab bc join = record {
  simulates = λ m r fits.
      let x = ab.simulates m r fits in
      let y = bc.simulates (after m x.0) (reached_more m x.0 r x.1) x.2 in
      (y.0 ++ x.0, enabled_histories_join m y.0 x.0 x.1 y.1, subst (λ (n : Machine). Fits n c) (sym (after-append m y.0 x.0)) y.2, join m x.0 y.0 x.3 y.3);
}
