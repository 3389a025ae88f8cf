-- What a call has done of a port so far, in a service or in a tick: a port's turn, and what was so of another one before it.
use Rattle.std.proofs.Common.{ℕ, ◌≡◌, ◌≢◌, Bool, true, false, if◌then◌else◌, List, [], ◌∷◌, ◌++◌, sym, ap, ◌∙◌, subst, inl, inr, ⊎_elim, append_assoc, append-nil}
use Rattle.std.specs.List.{All, Contains}
use Rattle.std.proofs.lemmas.Bool.{cases_Bool}
use Rattle.std.proofs.lemmas.List.Elements.{All-append, All-cons, All-head, All-nil, All-tail, All-weaker, Contains-append_cases}
use Rattle.ata_types.specs.declared.Port.{Port}
use Rattle.ata_types.specs.declared.PortState.TheVariants.{Dead, Ready as ReadyState}
use Rattle.ata_types.specs.declared.request.Outcome.{Outcome}
use Rattle.ata_types.specs.declared.request.Outcome.TheVariants.{Unplugged}
use Rattle.ata_types.specs.declared.request.Reply.{Reply}
use Rattle.hba_regs.specs.declared.reg.PortReg.TheVariants.{Sctl}
use Rattle.hba_regs.specs.declared.reg.Reg.TheVariants.{Px}
use Rattle.adapter.specs.Access.{Access}
use Rattle.adapter.specs.Access.Access.{Loading, Reading, Storing, Writing}
use Rattle.adapter.specs.Device.{Device}
use Rattle.adapter.specs.Rules.{IsOn}
use Rattle.refinement.specs.Relation.{port_at}
use Rattle.refinement.specs.Fragments.{AccessesNoOtherPort}
use Rattle.refinement.specs.PreservedParts.{DoesNotWrite}
use Rattle.block_machine.specs.Events.{AbstractState}
use Rattle.block_machine.specs.Histories.{JointState, IsReachable}
use Rattle.block_machine.specs.Expected.{after}
use Rattle.block_machine.specs.Ports.{Evidence, Ports, SameSerialAndSize, SamePort}
use Rattle.block_machine.specs.State.{Machine, Pending}
use Rattle.block_machine.specs.Steps.{Step, WaitAgain, Answer}
use Rattle.driver_history.specs.PortTurn.{KeepsToAnotherPort, EvidenceAgreesOn}
use Rattle.driver_history.specs.AccessTrace.{StaysInDriverFrames, UsesPortsAndNotGhc, WritesNeitherCmdNorSctl, LastSctlWritesResetLink}
use Rattle.host_boot.specs.TakeOver.{probe_result_of}
use Rattle.host_boot.specs.declared.ProbeResult.{ProbeResult}
use Rattle.server_history.specs.Prerequisites.{PrerequisiteLaws}
use Rattle.server_history.specs.ServerState.{ServerState, MachineRelation, InvariantWithNoneDue, is_served, ports_of, state_of}
use Rattle.server_history.specs.Turns.{RestingInTick, IsPortTurn, InRestart, SimulatesTurn, RequeuesAndAbortsFitTurn, RestartsPort, CorrespondsInServiceLosesNoErrorInRestart}
use Rattle.server_history.proofs.whole_call.EarlierResults as carrying
use Rattle.server_history.proofs.any_turn.JoinedParts.{ready_or_not, same_then}
use Rattle.server_history.proofs.whole_call.TurnResults as lifting
use Rattle.server_history.proofs.whole_call.TurnDuties.{ties_whole}
use Rattle.server_history.proofs.whole_call.ServiceAndTick.{AService, ATick, Plan, TakesTurn, Uses, turn_at}
use Rattle.server_history.proofs.whole_call.Progress as progress
use Rattle.server_history.proofs.whole_call.Progress.{HasRested, HasTicked, IsRestarted, TiesSoFar, others_leave}
use Rattle.server_history.proofs.whole_call.EarlierDuties.{ties_still}
use Rattle.server_history.proofs.whole_call.UnreadyDuties.{tried_still, tried_whole}
use Rattle.server_history.proofs.unready_turn.UnfitPort.{ready_fits}

-- ---- accesses

-- the link was reset among more accesses, of which the others leave it
resets_then : (port : Port) (early late : List Access) → All (DoesNotWrite (Px port Sctl)) late → LastSctlWritesResetLink port early → LastSctlWritesResetLink port (early ++ late)
resets_then port early late spares r = record {
  before = r.before;
  between = r.between;
  later = r.later ++ late;
  comreset_value = r.comreset_value;
  end_of_comreset_value = r.end_of_comreset_value;
  accesses_are_split = ap (λ (list : List Access). list ++ late) r.accesses_are_split
      ∙ append_assoc r.before (Writing (Px port Sctl) r.comreset_value ∷ (r.between ++ (Writing (Px port Sctl) r.end_of_comreset_value ∷ r.later))) late
      ∙ ap (λ (list : List Access). r.before ++ (Writing (Px port Sctl) r.comreset_value ∷ list)) (append_assoc r.between (Writing (Px port Sctl) r.end_of_comreset_value ∷ r.later) late);
  sends_comreset = r.sends_comreset;
  ends_comreset = r.ends_comreset;
  sctl_is_unwritten_between = r.sctl_is_unwritten_between;
  sctl_is_unwritten_later = All-append (DoesNotWrite (Px port Sctl)) r.later late r.sctl_is_unwritten_later spares;
}

resets_since : (port : Port) (early late : List Access) → LastSctlWritesResetLink port late → LastSctlWritesResetLink port (early ++ late)
resets_since port early late r = record {
  before = early ++ r.before;
  between = r.between;
  later = r.later;
  comreset_value = r.comreset_value;
  end_of_comreset_value = r.end_of_comreset_value;
  accesses_are_split = ap (λ (list : List Access). early ++ list) r.accesses_are_split ∙ sym (append_assoc early r.before (Writing (Px port Sctl) r.comreset_value ∷ (r.between ++ (Writing (Px port Sctl) r.end_of_comreset_value ∷ r.later))));
  sends_comreset = r.sends_comreset;
  ends_comreset = r.ends_comreset;
  sctl_is_unwritten_between = r.sctl_is_unwritten_between;
  sctl_is_unwritten_later = r.sctl_is_unwritten_later;
}

-- a turn's accesses serve ports that the call uses
module _ (laws : PrerequisiteLaws) (n : ℕ) where
  of_such : (Such : Port → Type 0) → Such (port_at n) → (list : List Access) → All (AccessesNoOtherPort (port_at n)) list → All StaysInDriverFrames list → All (UsesPortsAndNotGhc Such) list
  of_such Such its [] of own = All-nil (UsesPortsAndNotGhc Such)
  of_such Such its (access ∷ list) of own = All-cons (UsesPortsAndNotGhc Such) access list
      (one access (All-head (AccessesNoOtherPort (port_at n)) access list of) (All-head StaysInDriverFrames access list own))
      (of_such Such its list (All-tail (AccessesNoOtherPort (port_at n)) access list of) (All-tail StaysInDriverFrames access list own))
    where
      one : (access : Access) → AccessesNoOtherPort (port_at n) access → StaysInDriverFrames access → UsesPortsAndNotGhc Such access
      one (Reading (Px at r) v) of own = (own, tt, subst Such (sym of) its)
      one (Reading r v) of own = (own, tt, tt)
      one (Writing (Px at r) v) of own = (own, laws.one_port_spares_ghc (port_at n) (Writing (Px at r) v) of, subst Such (sym of) its)
      one (Writing r v) of own = (own, laws.one_port_spares_ghc (port_at n) (Writing r v) of, tt)
      one (Loading at bytes) of own = (own, tt, tt)
      one (Storing at bytes) of own = (own, tt, tt)

  pub serving : (plan : Plan) (found : ProbeResult) (ports : Ports) → ports.served (port_at n) ≡ is_served found → ports.state (port_at n) ≡ state_of found → TakesTurn plan found → (its : List Reply) (c mid : ServerState) (m : Machine)
      (part : IsPortTurn (turn_at plan found n) (port_at n) its c mid) → SimulatesTurn (turn_at plan found n) (port_at n) its part.accesses c mid m → All (UsesPortsAndNotGhc (Uses plan ports)) part.accesses
  serving AService found ports served state takes its c mid m part x =
      of_such (Uses AService ports) (served ∙ takes.0, λ dead. takes.1 (sym state ∙ dead)) part.accesses part.accesses_are_of_port part.accesses_are_drivers_own
  serving (ATick hung) found ports served state takes its c mid m part x = ⊎_elim
      (λ (so : hung n ≡ true). of_such (Uses (ATick hung) ports) (state ∙ takes, so) part.accesses part.accesses_are_of_port part.accesses_are_drivers_own)
      (λ (not_so : hung n ≡ false).
      let rests = subst (λ (b : Bool). RequeuesAndAbortsFitTurn (if b then InRestart else RestingInTick) (port_at n) part.accesses c mid m x.evidence x.steps) not_so x.requeues_and_aborts_fit_turn in
      subst (All (UsesPortsAndNotGhc (Uses (ATick hung) ports))) (sym rests.0) (All-nil (UsesPortsAndNotGhc (Uses (ATick hung) ports))))
      (cases_Bool (hung n))

-- ---- a tick

module _ (hung : ℕ → Bool) (laws : PrerequisiteLaws) (s : ServerState) (start : InvariantWithNoneDue s) (old : AbstractState) (reached : IsReachable old.machine) (at : MachineRelation s old.machine) (ports_are : old.ports ≡ ports_of s) where
  abbrev plan : Plan
  plan = ATick hung

  abbrev began : JointState Device
  began = record { device = s.device; abstract = old }

  abbrev Progress : ℕ → ServerState → List Reply → Type 0
  Progress n c replies = progress.Progress plan laws s start old reached at ports_are n c replies

  -- ---- a port's turn

  module _ (n : ℕ) (c mid : ServerState) (before its : List Reply) (ready : state_of (probe_result_of s.probe_results n) ≡ ReadyState) (p : Progress n c before) (next : InvariantWithNoneDue mid) (part : IsPortTurn (turn_at plan (probe_result_of s.probe_results n) n) (port_at n) its c mid)
      (m_reached : IsReachable (after old.machine p.steps)) (on_mid : IsOn mid.device) (evidence : Evidence) where
    abbrev m : Machine
    m = after old.machine p.steps

    abbrev x : SimulatesTurn (turn_at plan (probe_result_of s.probe_results n) n) (port_at n) its part.accesses c mid m
    x = part.simulates_turn m m_reached p.machine_relation

    abbrev all : List Step
    all = x.steps ++ p.steps

    abbrev accesses : List Access
    accesses = p.accesses ++ part.accesses

    not_early : (e : Pending) (o : Outcome) → Contains p.steps (Answer e o) → e.request.port ≢ port_at n
    not_early = lifting.not_early plan laws s start old reached at ports_are n c mid before its p next part m_reached on_mid

    not_again : (e : Pending) → Contains p.steps (WaitAgain e) → e.request.port ≢ port_at n
    not_again = lifting.not_again plan laws s start old reached at ports_are n c mid before its p next part m_reached on_mid

    module _ (alike : EvidenceAgreesOn (port_at n) x.evidence evidence) (same_n : SamePort old.ports (ports_of c) (port_at n)) where
      restarted : hung n ≡ true → IsRestarted began (port_at n) accesses mid evidence all
      restarted so = record {
        finds = lifting.finding plan laws s start old reached at ports_are n c mid before its p next part m_reached on_mid ready r.finds_done r.answers_ok_what_had_ended;
        boots = ⊎_elim (λ dead. inl dead) (λ resets. inr (resets_since (port_at n) p.accesses part.accesses resets)) r.is_dead_or_link_is_reset;
        ended = lifting.ended_whole plan laws s start old reached at ports_are n c mid before its p next part m_reached on_mid ready r.answers_ok_what_had_ended;
        interrupts = lifting.named plan laws s start old reached at ports_are n c mid before its p next part m_reached on_mid evidence alike r.is_stopped_or_stuck;
        anew = lifting.anew_whole plan laws s start old reached at ports_are n c mid before its p next part m_reached on_mid r.issued_are_issued_in_steps;
        another = λ e here own. ⊎_elim
            (λ late.
            let w = r.unplugged_lost_its_disk e late in
            let lives : state_of (probe_result_of mid.probe_results n) ≢ Dead = λ dead. w.0 (ap (λ (q : Port). state_of (probe_result_of mid.probe_results q.0)) own ∙ dead) in (
              lives,
              λ is_ready disk. w.1 (ap (λ (q : Port). state_of (probe_result_of mid.probe_results q.0)) own ∙ is_ready)
                  (subst (λ (q : Port). SameSerialAndSize (ports_of c) (ports_of mid) q) (sym own) (disk.0 ∙ sym same_n.2, disk.1 ∙ sym same_n.3)),
            ))
            (λ early. absurd (not_early e Unplugged early own))
            (Contains-append_cases x.steps p.steps (Answer e Unplugged) here);
        disk = lifting.disk_whole plan laws s start old reached at ports_are n c mid before its p next part m_reached on_mid r.shown_disk_was_in_or_came;
        heeds = lifting.trouble_whole plan laws s start old reached at ports_are n c mid before its p next part m_reached on_mid evidence alike same_n (λ _ _. r.is_stopped_or_stuck) (λ _. inl (lifting.undue plan laws s start old reached at ports_are n c mid before its p next part m_reached on_mid ready)) ties;
      }
        where
          r : RestartsPort (port_at n) part.accesses c mid m x.evidence x.steps
          r = (subst (λ (b : Bool). RequeuesAndAbortsFitTurn (if b then InRestart else RestingInTick) (port_at n) part.accesses c mid m x.evidence x.steps) so x.requeues_and_aborts_fit_turn).0

          ties : CorrespondsInServiceLosesNoErrorInRestart InRestart (port_at n) its part.accesses c mid m x.evidence x.steps
          ties = subst (λ (b : Bool). CorrespondsInServiceLosesNoErrorInRestart (if b then InRestart else RestingInTick) (port_at n) its part.accesses c mid m x.evidence x.steps) so x.turn_corresponds

      rested : hung n ≡ false → HasRested old (port_at n) accesses mid evidence all
      rested not_so = record {
        others = subst (λ (list : List Access). All (KeepsToAnotherPort (port_at n)) (p.accesses ++ list)) (sym rests.0) (subst (All (KeepsToAnotherPort (port_at n))) (sym (append-nil p.accesses))
            (p.others (port_at n) (lifting.not_yet plan laws s start old reached at ports_are n c mid before its p next part m_reached on_mid)));
        same = ⊎_elim
            (λ same. same_then old.ports (ports_of c) (ports_of mid) (port_at n) same_n same)
            (λ interrupted. absurd (rests.3 interrupted))
            (x.port_is_serviced.1 (λ dead. let z : ReadyState ≡ Dead = sym (lifting.ready_c plan laws s start old reached at ports_are n c mid before its p next part m_reached on_mid ready) ∙ dead in absurd cc)).1;
        uninterrupted = λ i. rests.3 (⊎_elim (λ stopped. inl (alike.stopped.1 stopped)) (λ stuck. inr (alike.stuck.1 stuck)) i);
        again = λ e here. not_again e (subst (λ (list : List Step). Contains (list ++ p.steps) (WaitAgain e)) rests.1 here);
        answer = λ e o here. not_early e o (subst (λ (list : List Step). Contains (list ++ p.steps) (Answer e o)) rests.1 here);
      }
        where
          rests : RequeuesAndAbortsFitTurn RestingInTick (port_at n) part.accesses c mid m x.evidence x.steps
          rests = subst (λ (b : Bool). RequeuesAndAbortsFitTurn (if b then InRestart else RestingInTick) (port_at n) part.accesses c mid m x.evidence x.steps) not_so x.requeues_and_aborts_fit_turn

      pub ticked : HasTicked hung s old (port_at n) accesses mid evidence all
      ticked = record {
        restarted = λ _ so. restarted so;
        rested = λ not. ⊎_elim
            (λ (so : hung n ≡ true). absurd (not (lifting.was_ready plan laws s start old reached at ports_are n c mid before its p next part m_reached on_mid ready) so))
            (λ (not_so : hung n ≡ false). rested not_so)
            (cases_Bool (hung n));
      }

  -- ---- another port, before it

  module _ (n : ℕ) (c mid : ServerState) (before its : List Reply) (p : Progress n c before) (part : IsPortTurn (turn_at plan (probe_result_of s.probe_results n) n) (port_at n) its c mid) (m_reached : IsReachable (after old.machine p.steps)) (q : Port) (apart : q ≢ port_at n)
      (d : progress.IsDone plan laws s start old reached at ports_are c p.accesses p.steps p.evidence q) (evidence : Evidence) (alike : EvidenceAgreesOn q p.evidence evidence) (same : SamePort (ports_of c) (ports_of mid) q) where
    abbrev m_so_far : Machine
    m_so_far = after old.machine p.steps

    abbrev y : SimulatesTurn (turn_at plan (probe_result_of s.probe_results n) n) (port_at n) its part.accesses c mid m_so_far
    y = part.simulates_turn m_so_far m_reached p.machine_relation

    abbrev steps_then : List Step
    steps_then = y.steps ++ p.steps

    abbrev accesses_then : List Access
    accesses_then = p.accesses ++ part.accesses

    of_others : All (KeepsToAnotherPort q) part.accesses
    of_others = All-weaker (AccessesNoOtherPort (port_at n)) (KeepsToAnotherPort q) (λ access of. (port_at n, carrying.other plan laws s start old reached at ports_are n c mid before its p part m_reached q apart, of)) part.accesses part.accesses_are_of_port

    pub still_ticked : HasTicked hung s old q accesses_then mid evidence steps_then
    still_ticked = record {
      restarted = λ was_ready so.
          let r = d.ties.restarted was_ready so in
          record {
            finds = carrying.finds_more plan laws s start old reached at ports_are n c mid before its p part m_reached q apart r.finds;
            boots = ⊎_elim
                (λ dead. inl (same.1 ∙ dead))
                (λ resets. inr (resets_then q p.accesses part.accesses
                (All-weaker (WritesNeitherCmdNorSctl q) (DoesNotWrite (Px q Sctl)) (λ access leaves. leaves.1) part.accesses (others_leave plan laws s start old reached at ports_are q part.accesses of_others)) resets))
                r.boots;
            ended = carrying.ended_still plan laws s start old reached at ports_are n c mid before its p part m_reached q apart r.ended;
            interrupts = carrying.named plan laws s start old reached at ports_are n c mid before its p part m_reached q apart evidence alike r.interrupts;
            anew = carrying.anew_still plan laws s start old reached at ports_are n c mid before its p part m_reached q apart r.anew;
            another = λ e here own. ⊎_elim
                (λ late. absurd (carrying.not_late plan laws s start old reached at ports_are n c mid before its p part m_reached q apart e Unplugged late own))
                (λ early. let w = r.another e early own in (λ dead. w.0 (sym same.1 ∙ dead), λ is_ready disk. w.1 (sym same.1 ∙ is_ready) (sym same.2 ∙ disk.0, sym same.3 ∙ disk.1)))
                (Contains-append_cases y.steps p.steps (Answer e Unplugged) here);
            disk = carrying.disk_still plan laws s start old reached at ports_are n c mid before its p part m_reached q apart same r.disk;
            heeds = carrying.trouble_still plan laws s start old reached at ports_are n c mid before its p part m_reached q apart d evidence alike same (λ _ _. r.interrupts) (λ _. inl (carrying.undue plan laws s start old reached at ports_are n c mid before its p part m_reached q apart d was_ready)) r.heeds;
          };
      rested = λ not.
          let r = d.ties.rested not in
          record {
            others = All-append (KeepsToAnotherPort q) p.accesses part.accesses r.others of_others;
            same = same_then old.ports (ports_of c) (ports_of mid) q r.same same;
            uninterrupted = λ i. r.uninterrupted (carrying.unnamed plan laws s start old reached at ports_are n c mid before its p part m_reached q apart evidence alike i);
            again = λ e here own. ⊎_elim
                (λ late. carrying.not_again plan laws s start old reached at ports_are n c mid before its p part m_reached q apart e late own)
                (λ early. r.again e early own)
                (Contains-append_cases y.steps p.steps (WaitAgain e) here);
            answer = λ e o here own. ⊎_elim
                (λ late. carrying.not_late plan laws s start old reached at ports_are n c mid before its p part m_reached q apart e o late own)
                (λ early. r.answer e o early own)
                (Contains-append_cases y.steps p.steps (Answer e o) here);
          };
    }

-- ---- both

pub ties_turned : (plan : Plan) (laws : PrerequisiteLaws) (s : ServerState) (start : InvariantWithNoneDue s) (old : AbstractState) (reached : IsReachable old.machine) (at : MachineRelation s old.machine) (ports_are : old.ports ≡ ports_of s) (n : ℕ) (c mid : ServerState) (before its : List Reply)
    (takes : TakesTurn plan (probe_result_of s.probe_results n)) (p : progress.Progress plan laws s start old reached at ports_are n c before) (next : InvariantWithNoneDue mid) (part : IsPortTurn (turn_at plan (probe_result_of s.probe_results n) n) (port_at n) its c mid)
    (m_reached : IsReachable (after old.machine p.steps)) (on_mid : IsOn mid.device) (evidence : Evidence) → EvidenceAgreesOn (port_at n) (part.simulates_turn (after old.machine p.steps) m_reached p.machine_relation).evidence evidence → SamePort old.ports (ports_of c) (port_at n)
    → TiesSoFar plan s old (port_at n) (p.accesses ++ part.accesses) mid evidence ((part.simulates_turn (after old.machine p.steps) m_reached p.machine_relation).steps ++ p.steps)
ties_turned AService laws s start old reached at ports_are n c mid before its takes p next part m_reached on_mid evidence alike same_n =
    ⊎_elim
    (λ ready. (
      ties_whole laws s start old reached at ports_are n c mid before its ready p next part m_reached on_mid evidence alike same_n,
      λ bad. absurd (ready_fits (old.ports.state (port_at n)) (ap (λ (ports : Ports). ports.state (port_at n)) ports_are ∙ ready) bad),
    ))
    (λ unready. tried_whole laws s start old reached at ports_are n c mid before its unready p next part m_reached on_mid evidence alike same_n)
    (ready_or_not (state_of (probe_result_of s.probe_results n)))
ties_turned (ATick hung) laws s start old reached at ports_are n c mid before its takes p next part m_reached on_mid evidence alike same_n = ticked hung laws s start old reached at ports_are n c mid before its takes p next part m_reached on_mid evidence alike same_n

pub ties_carried : (plan : Plan) (laws : PrerequisiteLaws) (s : ServerState) (start : InvariantWithNoneDue s) (old : AbstractState) (reached : IsReachable old.machine) (at : MachineRelation s old.machine) (ports_are : old.ports ≡ ports_of s) (n : ℕ) (c mid : ServerState) (before its : List Reply)
    (p : progress.Progress plan laws s start old reached at ports_are n c before) (part : IsPortTurn (turn_at plan (probe_result_of s.probe_results n) n) (port_at n) its c mid) (m_reached : IsReachable (after old.machine p.steps)) (q : Port) (apart : q ≢ port_at n)
    (d : progress.IsDone plan laws s start old reached at ports_are c p.accesses p.steps p.evidence q) (evidence : Evidence) (alike : EvidenceAgreesOn q p.evidence evidence) (same : SamePort (ports_of c) (ports_of mid) q)
    → TiesSoFar plan s old q (p.accesses ++ part.accesses) mid evidence ((part.simulates_turn (after old.machine p.steps) m_reached p.machine_relation).steps ++ p.steps)
ties_carried AService laws s start old reached at ports_are n c mid before its p part m_reached q apart d evidence alike same = ⊎_elim
    (λ ready. (
      ties_still laws s start old reached at ports_are n c mid before its p part m_reached q apart d evidence alike same ready,
      λ bad. absurd (ready_fits (old.ports.state q) ready bad),
    ))
    (λ unready. tried_still laws s start old reached at ports_are n c mid before its p part m_reached q apart d evidence alike same unready)
    (ready_or_not (old.ports.state q))
ties_carried (ATick hung) laws s start old reached at ports_are n c mid before its p part m_reached q apart d evidence alike same = still_ticked hung laws s start old reached at ports_are n c mid before its p part m_reached q apart d evidence alike same
