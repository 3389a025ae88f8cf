-- What a service does of a port that isn't ready: its turn in the whole so far, and what was so of it before another port's turn.
use Rattle.std.proofs.Common.{ℕ, ◌≡◌, ◌≢◌, List, [], ◌++◌, refl, sym, ap, ◌∙◌, subst, inl, inr, ⊎_elim, append-nil}
use Rattle.ata_types.specs.declared.Port.{Port}
use Rattle.ata_types.specs.declared.PortState.TheVariants.{Absent, Dead, Ready as ReadyState}
use Rattle.ata_types.specs.declared.request.Reply.{Reply}
use Rattle.adapter.specs.Access.{Access}
use Rattle.adapter.specs.Device.{Device}
use Rattle.adapter.specs.Rules.{IsOn}
use Rattle.refinement.specs.Relation.{port_at}
use Rattle.refinement.specs.PreservedParts.{HasDet3IfDiskPresent}
use Rattle.block_machine.specs.Events.{AbstractState, Replied, Service}
use Rattle.block_machine.specs.Histories.{JointState, IsReachable}
use Rattle.block_machine.specs.Expected.{after}
use Rattle.block_machine.specs.Ports.{Evidence, IsStoppedOrStuck, Ports, SamePort}
use Rattle.block_machine.specs.State.{Machine}
use Rattle.block_machine.specs.Steps.{Step}
use Rattle.driver_history.specs.Histories.{BootsAnewWhereRequired, IsForeignOrUnfit, ProbesDisk, PortCorresponds}
use Rattle.driver_history.specs.PortTurn.{NoLinkDueAfterXUnlessAbsentDeadOrDiskComes, HasTurnIn, EvidenceAgreesOn}
use Rattle.driver_history.specs.AccessTrace.{LastSctlWritesResetLink}
use Rattle.host_boot.specs.TakeOver.{probe_result_of}
use Rattle.host_boot.specs.declared.ProbeResult.{ProbeResult}
use Rattle.host_boot.specs.declared.ProbeResult.TheVariants.{Ready, Unready, Unserved}
use Rattle.server_history.specs.Prerequisites.{PrerequisiteLaws}
use Rattle.server_history.specs.ServerState.{ServerState, InCallInvariant, MachineRelation, InvariantWithNoneDue, ports_of, state_of}
use Rattle.server_history.specs.Turns.{IsPortTurn, LosesNoErrorAndRunsWellAnew, ServingReady, InProbe, SimulatesTurn, CorrespondsInServiceLosesNoErrorInRestart, Turn, joint_state_of, abstract_state_of, joint_event_of_turn}
use Rattle.server_history.proofs.whole_call.EarlierResults as carrying
use Rattle.server_history.proofs.any_turn.JoinedParts.{dead_or_not}
use Rattle.server_history.proofs.whole_call.TurnResults as lifting
use Rattle.server_history.proofs.whole_call.ServiceAndTick.{AService, turn_at}
use Rattle.server_history.proofs.whole_call.Progress as progress
use Rattle.server_history.proofs.unready_turn.UnfitPort.{bad_tends, found_bad}

-- its turn in a service is one in which it is tried
is_tried : (found : ProbeResult) (n : ℕ) → state_of found ≢ ReadyState → turn_at AService found n ≡ InProbe
is_tried Unserved n unready = refl
is_tried (Ready info) n unready = absurd (unready refl)
is_tried (Unready state) n unready = refl

module _ (laws : PrerequisiteLaws) (s : ServerState) (start : InvariantWithNoneDue s) (old : AbstractState) (reached : IsReachable old.machine) (at : MachineRelation s old.machine) (ports_are : old.ports ≡ ports_of s) where
  abbrev kept : InCallInvariant s
  kept = start.in_call_invariant

  abbrev began : JointState Device
  began = record { device = s.device; abstract = old }

  abbrev IsDone : ServerState → List Access → List Step → Evidence → Port → Type 0
  IsDone c accesses steps evidence q = progress.IsDone AService laws s start old reached at ports_are c accesses steps evidence q

  abbrev Progress : ℕ → ServerState → List Reply → Type 0
  Progress n c replies = progress.Progress AService laws s start old reached at ports_are n c replies

  state_was : (q : Port) → old.ports.state q ≡ state_of (probe_result_of s.probe_results q.0)
  state_was q = ap (λ (ports : Ports). ports.state q) ports_are

  -- in one with a disk that isn't served a device showed when the call began, or no disk was in
  there : (q : Port) → IsForeignOrUnfit old.ports q → HasDet3IfDiskPresent (s.device.port q.0)
  there q bad =
      let found = ⊎_elim (λ foreign. inl (sym (state_was q) ∙ foreign)) (λ unfit. inr (unfit.0, sym (state_was q) ∙ unfit.1)) bad in
      (kept.port_invariant q.0 (kept.served_ports_exist q.0 (bad_tends (probe_result_of s.probe_results q.0) found).0).0).bad_disk_is_shown_if_in
      (found_bad (state_of (probe_result_of s.probe_results q.0)) found)

  -- ---- its turn

  module _ (n : ℕ) (c mid : ServerState) (before its : List Reply) (unready : state_of (probe_result_of s.probe_results n) ≢ ReadyState) (p : Progress n c before) (next : InvariantWithNoneDue mid) (part : IsPortTurn (turn_at AService (probe_result_of s.probe_results n) n) (port_at n) its c mid)
      (m_reached : IsReachable (after old.machine p.steps)) (on_mid : IsOn mid.device) (evidence : Evidence) where
    abbrev m : Machine
    m = after old.machine p.steps

    abbrev x : SimulatesTurn (turn_at AService (probe_result_of s.probe_results n) n) (port_at n) its part.accesses c mid m
    x = part.simulates_turn m m_reached p.machine_relation

    abbrev all : List Step
    all = x.steps ++ p.steps

    abbrev accesses : List Access
    accesses = p.accesses ++ part.accesses

    its_ties : CorrespondsInServiceLosesNoErrorInRestart InProbe (port_at n) its part.accesses c mid m x.evidence x.steps
    its_ties = subst (λ (turn : Turn). CorrespondsInServiceLosesNoErrorInRestart turn (port_at n) its part.accesses c mid m x.evidence x.steps) (is_tried (probe_result_of s.probe_results n) n unready) x.turn_corresponds

    abbrev did : PortCorresponds (joint_state_of c m) (joint_event_of_turn InProbe its mid x.evidence x.steps) part.accesses (port_at n)
    did = its_ties.0

    abbrev t : HasTurnIn (port_at n) s.device mid.device
    t = lifting.t AService laws s start old reached at ports_are n c mid before its p next part m_reached on_mid

    same_self : SamePort (ports_of mid) (ports_of mid) (port_at n)
    same_self = (refl, refl, refl, refl, refl, refl)

    never : old.ports.state (port_at n) ≢ ReadyState
    never ready = unready (sym (state_was (port_at n)) ∙ ready)

    module _ (alike : EvidenceAgreesOn (port_at n) x.evidence evidence) (same_n : SamePort old.ports (ports_of c) (port_at n)) where
      never_then : (ports_of c).state (port_at n) ≢ ReadyState
      never_then ready = never (sym same_n.1 ∙ ready)

      -- it isn't what it was, where it is ready then
      no_same : (ports_of mid).state (port_at n) ≡ ReadyState → SamePort (ports_of c) (ports_of mid) (port_at n) → ⊥
      no_same ready same = never_then (sym same.1 ∙ ready)

      -- so it was stopped, and its link reset
      stopped : (ports_of mid).state (port_at n) ≡ ReadyState → IsStoppedOrStuck x.evidence (port_at n)
      stopped ready = ⊎_elim
          (λ (dead : (ports_of c).state (port_at n) ≡ Dead). absurd (no_same ready (x.port_is_serviced.0 dead)))
          (λ (lives : (ports_of c).state (port_at n) ≢ Dead). ⊎_elim (λ same. absurd (no_same ready same)) (λ i. i) (x.port_is_serviced.1 lives).1)
          (dead_or_not ((ports_of c).state (port_at n)))

      resets : (ports_of mid).state (port_at n) ≡ ReadyState → LastSctlWritesResetLink (port_at n) part.accesses
      resets ready = ⊎_elim
          (λ same. absurd (no_same ready same))
          (λ anew. ⊎_elim (λ dead. let z : Dead ≡ ReadyState = sym dead ∙ ready in absurd cc) (λ rest. ⊎_elim (λ absent. let z : Absent ≡ ReadyState = sym absent ∙ ready in absurd cc) (λ r. r) rest) anew)
          did.boots_anew.1

      heeds : LosesNoErrorAndRunsWellAnew (port_at n) accesses began evidence (ports_of mid) mid.device
      heeds = lifting.trouble_whole AService laws s start old reached at ports_are n c mid before its p next part m_reached on_mid evidence alike same_n
          (λ ready port_error. ⊎_elim (λ before. absurd (never_then before)) stopped ready) (λ ready. inr (resets ready)) (record { loses_no_error = did.loses_no_error; runs_well_anew = did.runs_well_anew })

      pub tried_whole : PortCorresponds began (joint_event_of_turn ServingReady [] mid evidence all) accesses (port_at n) × NoLinkDueAfterXUnlessAbsentDeadOrDiskComes (port_at n) began (ports_of mid) mid.device
      tried_whole = (
        record {
          finds_done = λ ready. absurd (never ready);
          lone_plain_faults_are_told_unless_dead = λ alone. absurd (never alone.ready);
          probes_disk = λ served comes. subst (λ (list : List Access). ProbesDisk (p.accesses ++ list) began (ports_of mid) mid.device (port_at n)) (append-nil part.accesses)
              (laws.calls.turn_probe_is_calls (port_at n) began (abstract_state_of c m) (ports_of mid) (ports_of mid) mid.device kept.adapter_is_on t on_mid same_self same_n (there (port_at n)) its_ties.1 (λ none. did.probes_disk (same_n.0 ∙ served) none) comes);
          boots_anew = subst (λ (list : List Access). BootsAnewWhereRequired Service (Replied []) (p.accesses ++ list) began (ports_of mid) mid.device (port_at n)) (append-nil part.accesses)
              (laws.calls.turn_boots_are_calls (port_at n) began (abstract_state_of c m) (ports_of mid) (ports_of mid) mid.device (Replied its) (Replied []) kept.adapter_is_on (λ ready. absurd (never ready)) t on_mid same_self same_n did.boots_anew);
          loses_no_error = heeds.loses_no_error;
          runs_well_anew = heeds.runs_well_anew;
          handles_evidence = λ ready. absurd (never ready);
        },
        laws.calls.turn_without_due_link_is_calls (port_at n) began (abstract_state_of c m) (ports_of mid) (ports_of mid) mid.device kept.adapter_is_on t on_mid same_self same_n its_ties.1,
      )

  -- ---- another port's turn after it

  module _ (n : ℕ) (c mid : ServerState) (before its : List Reply) (p : Progress n c before) (part : IsPortTurn (turn_at AService (probe_result_of s.probe_results n) n) (port_at n) its c mid) (m_reached : IsReachable (after old.machine p.steps)) (q : Port) (apart : q ≢ port_at n)
      (d : IsDone c p.accesses p.steps p.evidence q) (evidence : Evidence) (alike : EvidenceAgreesOn q p.evidence evidence) (same : SamePort (ports_of c) (ports_of mid) q) (unready : old.ports.state q ≢ ReadyState) where
    abbrev m_then : Machine
    m_then = after old.machine p.steps

    abbrev y : SimulatesTurn (turn_at AService (probe_result_of s.probe_results n) n) (port_at n) its part.accesses c mid m_then
    y = part.simulates_turn m_then m_reached p.machine_relation

    abbrev steps_then : List Step
    steps_then = y.steps ++ p.steps

    abbrev accesses_then : List Access
    accesses_then = p.accesses ++ part.accesses

    abbrev so_far : PortCorresponds began (joint_event_of_turn ServingReady [] c p.evidence p.steps) p.accesses q
    so_far = d.ties.0

    abbrev turn : HasTurnIn q s.device mid.device
    turn = carrying.t AService laws s start old reached at ports_are n c mid before its p part m_reached q apart

    same_old : SamePort old.ports old.ports q
    same_old = (refl, refl, refl, refl, refl, refl)

    was_another : (ports_of c).state q ≡ ReadyState → SamePort old.ports (ports_of c) q → ⊥
    was_another ready is = unready (sym is.1 ∙ ready)

    stopped_so_far : (ports_of c).state q ≡ ReadyState → IsStoppedOrStuck p.evidence q
    stopped_so_far ready = ⊎_elim
        (λ (dead : old.ports.state q ≡ Dead). absurd (was_another ready (d.becomes.0 dead)))
        (λ (lives : old.ports.state q ≢ Dead). ⊎_elim (λ is. absurd (was_another ready is)) (λ i. i) (d.becomes.1 lives).1)
        (dead_or_not (old.ports.state q))

    reset_so_far : (ports_of c).state q ≡ ReadyState → LastSctlWritesResetLink q p.accesses
    reset_so_far ready = ⊎_elim
        (λ is. absurd (was_another ready is))
        (λ anew. ⊎_elim (λ dead. let z : Dead ≡ ReadyState = sym dead ∙ ready in absurd cc) (λ rest. ⊎_elim (λ absent. let z : Absent ≡ ReadyState = sym absent ∙ ready in absurd cc) (λ r. r) rest) anew)
        so_far.boots_anew.1

    heeds_still : LosesNoErrorAndRunsWellAnew q accesses_then began evidence (ports_of mid) mid.device
    heeds_still = carrying.trouble_still AService laws s start old reached at ports_are n c mid before its p part m_reached q apart d evidence alike same
        (λ ready port_error. ⊎_elim (λ before. absurd (unready before)) stopped_so_far ready) (λ ready. inr (reset_so_far ready)) (record { loses_no_error = so_far.loses_no_error; runs_well_anew = so_far.runs_well_anew })

    pub tried_still : PortCorresponds began (joint_event_of_turn ServingReady [] mid evidence steps_then) accesses_then q × NoLinkDueAfterXUnlessAbsentDeadOrDiskComes q began (ports_of mid) mid.device
    tried_still = (
      record {
        finds_done = λ ready. absurd (unready ready);
        lone_plain_faults_are_told_unless_dead = λ alone. absurd (unready alone.ready);
        probes_disk = λ served comes. laws.calls.turn_probe_is_calls q began old (ports_of c) (ports_of mid) mid.device kept.adapter_is_on turn p.adapter_is_on same same_old (there q) d.ties.1 (λ none. so_far.probes_disk served none) comes;
        boots_anew = laws.calls.turn_boots_are_calls q began old (ports_of c) (ports_of mid) mid.device (Replied []) (Replied []) kept.adapter_is_on (λ ready. absurd (unready ready)) turn p.adapter_is_on same same_old so_far.boots_anew;
        loses_no_error = heeds_still.loses_no_error;
        runs_well_anew = heeds_still.runs_well_anew;
        handles_evidence = λ ready. absurd (unready ready);
      },
      laws.calls.turn_without_due_link_is_calls q began old (ports_of c) (ports_of mid) mid.device kept.adapter_is_on turn p.adapter_is_on same same_old d.ties.1,
    )
