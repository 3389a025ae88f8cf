-- Steps by which requests of dead ports are told, and no other.
use Rattle.std.proofs.Common.{◌≡◌, List, [], ◌∷◌, subst, sym}
use Rattle.std.specs.List.{All, Contains}
use Rattle.std.proofs.lemmas.List.Elements.{All-head, All-tail}
use Rattle.ata_types.specs.declared.PortState.TheVariants.{Dead}
use Rattle.ata_types.specs.declared.request.Outcome.{Outcome}
use Rattle.ata_types.specs.declared.request.Outcome.TheVariants as outcome
use Rattle.block_machine.specs.Events.{IsLawfulAnswer, AbstractState, UnpluggedOutcomeEmptiesPort}
use Rattle.block_machine.specs.Ports.{Evidence, Ports}
use Rattle.block_machine.specs.State.{Machine, Pending}
use Rattle.block_machine.specs.Steps.{Step, Answer}
use Rattle.driver_history.specs.EvidenceHandling.{OnlyPortsShowingErrorRequeueAbortRevokeFault}
use Rattle.server_history.proofs.state.AnswerSteps.{IsAnswerOf, answer_told}

-- a request of a port that is dead by these is told so
abbrev pub IsDeath : Ports → Pending → Outcome → Type 0
IsDeath ports e o = (o ≡ outcome.PortDead) × (ports.state e.request.port ≡ Dead)

module _ (ports : Ports) where
  pub death_lawful : (old : AbstractState) (evidence : Evidence) (e : Pending) (o : Outcome) → IsDeath ports e o → IsLawfulAnswer old evidence ports e o
  death_lawful old evidence e o death = subst (IsLawfulAnswer old evidence ports e) (sym death.0) death.1

  pub deaths_grounded : (evidence : Evidence) (steps : List Step) → All (IsAnswerOf (IsDeath ports)) steps → OnlyPortsShowingErrorRequeueAbortRevokeFault evidence steps
  deaths_grounded evidence [] all = tt
  deaths_grounded evidence (Answer e o ∷ steps) all =
      subst (λ (p : Outcome). OnlyPortsShowingErrorRequeueAbortRevokeFault evidence (Answer e p ∷ steps)) (sym (All-head (IsAnswerOf (IsDeath ports)) (Answer e o) steps all).0)
      (deaths_grounded evidence steps (All-tail (IsAnswerOf (IsDeath ports)) (Answer e o) steps all))
  deaths_grounded evidence (step ∷ steps) all = absurd (All-head (IsAnswerOf (IsDeath ports)) step steps all)

  pub deaths_unplug_none : (steps : List Step) → All (IsAnswerOf (IsDeath ports)) steps → (m : Machine) → UnpluggedOutcomeEmptiesPort steps m
  deaths_unplug_none steps all m = record { none_is_left = λ e other here. absurd (never e here); none_is_told_dead = λ e other here. absurd (never e here) }
    where
      never : (e : Pending) → Contains steps (Answer e outcome.Unplugged) → ⊥
      never e here = let z : outcome.Unplugged ≡ outcome.PortDead = (answer_told (IsDeath ports) steps all e outcome.Unplugged here).0 in cc
