-- Steps of the device in a call of a server.
use Rattle.std.proofs.Common.{◌≡◌, true, List, [], ◌∷◌, refl, inl}
use Rattle.std.proofs.lemmas.Bool.{false≢true}
use Rattle.ata_types.specs.declared.request.RequestId.{RequestId}
use Rattle.block_machine.specs.Events.{AbstractCall, AbstractState, IsByDevice, AllByDevice, AreStepsOfCall, IssueIsLastOfRequest, AnswersLawfulAndWaitsOnStoppedPorts, issues_requeues_or_answers_id, client_bytes_of}
use Rattle.block_machine.specs.Ports.{Ports, Evidence}
use Rattle.block_machine.specs.Steps.{Step, Issue, WaitAgain, Answer, Store, Load}

-- they may come in every call
pub devices_belong : {D : Type 0} (ask : AbstractCall D) (ports : Ports) (steps : List Step) → AllByDevice steps → AreStepsOfCall ask ports steps
devices_belong ask ports [] a = tt
devices_belong ask ports (step ∷ before) a = (devices_belong ask ports before a.0, inl a.1)

-- they are none of the server's with a request
pub not_handled : (id : RequestId) (step : Step) → IsByDevice step → issues_requeues_or_answers_id id step ≡ true → ⊥
not_handled id (Issue mode e) d h = absurd d
not_handled id (WaitAgain e) d h = absurd d
not_handled id (Answer e o) d h = absurd d
not_handled id _ d h = false≢true h

pub devices_last : (steps : List Step) → AllByDevice steps → IssueIsLastOfRequest steps
devices_last [] a = tt
devices_last (step ∷ before) a = (devices_last before a.0, λ id h i. not_handled id step a.1 h)

-- they answer nobody
pub devices_lawful : (old : AbstractState) (evidence : Evidence) (ports : Ports) (steps : List Step) → AllByDevice steps → AnswersLawfulAndWaitsOnStoppedPorts old evidence ports steps
devices_lawful old evidence ports [] a = tt
devices_lawful old evidence ports (WaitAgain e ∷ before) a = absurd a.1
devices_lawful old evidence ports (Answer e o ∷ before) a = absurd a.1
devices_lawful old evidence ports (step ∷ before) a = devices_lawful old evidence ports before a.0

-- they move no client's bytes
pub devices_transfer : (steps : List Step) → AllByDevice steps → client_bytes_of steps ≡ []
devices_transfer [] a = refl
devices_transfer (Store c f o bytes ∷ before) a = absurd a.1
devices_transfer (Load c f o bytes ∷ before) a = absurd a.1
devices_transfer (step ∷ before) a = devices_transfer before a.0
