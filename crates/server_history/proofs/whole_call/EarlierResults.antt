-- What a call has found and answered of a port so far it has still when another port has had its turn.
use Rattle.std.proofs.Common.{ℕ, ◌≡◌, ◌≢◌, ◌≤◌, true, false, List, [], ◌∷◌, ◌++◌, length, refl, sym, ap, ◌∙◌, subst, inl, inr, ⊎_elim, append_assoc, ◌⊎◌}
use Rattle.std.specs.List.{Contains, list_any}
use Rattle.std.proofs.lemmas.Bool.{or_right}
use Rattle.std.proofs.lemmas.List.Elements.{All-nil, All-weaker, Contains-append_cases, Contains-append_right}
use Rattle.ata_types.specs.declared.Port.{Port}
use Rattle.ata_types.specs.declared.PortState.{PortState}
use Rattle.ata_types.specs.declared.PortState.TheVariants.{Dead, Ready as ReadyState}
use Rattle.ata_types.specs.declared.request.Outcome.{Outcome}
use Rattle.ata_types.specs.declared.request.Outcome.TheVariants.{Ok}
use Rattle.ata_types.specs.declared.request.Reply.{Reply}
use Rattle.hba_regs.specs.declared.reg.Reg.TheVariants.{Ghc, Px}
use Rattle.hba_regs.specs.declared.reg.PortReg.TheVariants.{Ci, Sact}
use Rattle.adapter.specs.Access.{Access}
use Rattle.adapter.specs.Access.Access.{Reading}
use Rattle.adapter.specs.Device.{Device}
use Rattle.refinement.specs.Relation.{port_at}
use Rattle.refinement.specs.Fragments.{AccessesNoOtherPort}
use Rattle.refinement.specs.PreservedParts.{DoesNotWrite}
use Rattle.block_machine.specs.Events.{AnswersOkWhatHadEnded, ShownDiskWasInOrCame, AbstractState, IssuedOnPortAreIssuedInSteps, ShowsDisk, changes_disk, issues_id}
use Rattle.block_machine.specs.Histories.{JointState, IsReachable}
use Rattle.block_machine.specs.Expected.{after}
use Rattle.block_machine.specs.Ports.{Evidence, IsStoppedOrStuck, Ports, SamePort}
use Rattle.block_machine.specs.State.{Machine, Pending}
use Rattle.block_machine.specs.Steps.{Step, WaitAgain, Answer}
use Rattle.host_boot.specs.TakeOver.{probe_result_of}
use Rattle.driver_history.specs.Evidence.{ShowsLinkChange, ShowsFailure}
use Rattle.driver_history.specs.Histories.{FindsDone}
use Rattle.driver_history.specs.PortTurn.{HasTurnIn, KeepsToAnotherPort, EvidenceAgreesOn}
use Rattle.driver_history.specs.AccessTrace.{UsesPortsAndNotGhc, LastSctlWritesResetLink}
use Rattle.driver_history.specs.PortInvariants.{EngineRuns}
use Rattle.server_history.specs.Prerequisites.{PrerequisiteLaws}
use Rattle.server_history.specs.Turns.{IsPortTurn, LosesNoErrorAndRunsWellAnew, SimulatesTurn, abstract_state_of}
use Rattle.server_history.specs.ServerState.{ServerState, InCallInvariant, MachineRelation, InvariantWithNoneDue, ports_of, state_of}
use Rattle.server_history.proofs.any_turn.TurnSteps.{others_were}
use Rattle.server_history.proofs.whole_call.ServiceAndTick.{Plan, Uses, no_reset, turn_at}
use Rattle.server_history.proofs.whole_call.Progress as progress
use Rattle.server_history.proofs.plain_calls.IssueRounds.{any_append, issued_early}
use Rattle.server_history.proofs.state.PortSlots.{ready_found}
use Rattle.server_history.proofs.any_turn.TurnsInOrder.{again_of, answered_of}
use Rattle.server_history.proofs.any_turn.JoinedParts.{dead_or_not}

module _ (plan : Plan) (laws : PrerequisiteLaws) (s : ServerState) (start : InvariantWithNoneDue s) (old : AbstractState) (reached : IsReachable old.machine) (at : MachineRelation s old.machine) (ports_are : old.ports ≡ ports_of s) where
  abbrev kept : InCallInvariant s
  kept = start.in_call_invariant

  abbrev began : JointState Device
  began = record { device = s.device; abstract = old }

  abbrev state_at : ℕ → PortState
  state_at q = state_of (probe_result_of s.probe_results q)

  abbrev IsDone : ServerState → List Access → List Step → Evidence → Port → Type 0
  IsDone c accesses steps evidence q = progress.IsDone plan laws s start old reached at ports_are c accesses steps evidence q

  abbrev Progress : ℕ → ServerState → List Reply → Type 0
  Progress n c replies = progress.Progress plan laws s start old reached at ports_are n c replies

  module _ (n : ℕ) (c mid : ServerState) (before its : List Reply) (p : Progress n c before) (part : IsPortTurn (turn_at plan (probe_result_of s.probe_results n) n) (port_at n) its c mid) (m_reached : IsReachable (after old.machine p.steps)) where
    abbrev m : Machine
    m = after old.machine p.steps

    abbrev x : SimulatesTurn (turn_at plan (probe_result_of s.probe_results n) n) (port_at n) its part.accesses c mid m
    x = part.simulates_turn m m_reached p.machine_relation

    abbrev all : List Step
    all = x.steps ++ p.steps

    abbrev accesses : List Access
    accesses = p.accesses ++ part.accesses

    whole_is : after old.machine all ≡ after m x.steps
    whole_is = laws.steps_and_accesses.after_joins old.machine x.steps p.steps

    module _ (q : Port) (apart : q ≢ port_at n) where
      pub other : q.0 ≢ n
      other is = apart (ap port_at is)

      -- its part of the call, with the turn after it
      abbrev pub t : HasTurnIn q s.device mid.device
      t = record {
        before = [];
        turn = p.accesses;
        later = part.accesses;
        start = s.device;
        end = c.device;
        leads_to_start = refl;
        turn_leads_to_end = p.turn_is_taken;
        leads_to_new = part.accesses_are_done;
        earlier_are_of_others = All-nil (KeepsToAnotherPort q);
        later_are_of_others = All-weaker (AccessesNoOtherPort (port_at n)) (KeepsToAnotherPort q) (λ access of. (port_at n, other, of)) part.accesses part.accesses_are_of_port;
      }

      -- the turn answers nobody of it, and lets nobody of it wait again
      pub not_late : (e : Pending) (o : Outcome) → Contains x.steps (Answer e o) → e.request.port ≢ q
      not_late e o late own = apart (sym own ∙ answered_of (λ r. r ≡ port_at n) x.steps x.steps_are_of_turn e o late)

      pub not_again : (e : Pending) → Contains x.steps (WaitAgain e) → e.request.port ≢ q
      not_again e late own = apart (sym own ∙ again_of (λ r. r ≡ port_at n) x.steps x.steps_are_of_turn e late)

      -- what was found done on it was so still
      pub finds_more : FindsDone q p.accesses began p.steps → FindsDone q accesses began all
      finds_more f = record {
        ci = f.ci;
        sact = f.sact;
        reads = record {
          before = f.reads.before;
          later = f.reads.later ++ part.accesses;
          accesses_are_split = ap (λ (list : List Access). list ++ part.accesses) f.reads.accesses_are_split
              ∙ append_assoc f.reads.before (Reading (Px q Ci) f.ci ∷ Reading (Px q Sact) f.sact ∷ f.reads.later) part.accesses;
          cmd_is_unwritten_before = f.reads.cmd_is_unwritten_before;
        };
        answered_iff_done = λ e slot own says.
            let y = f.answered_iff_done e slot own says in (
              (λ ok. y.0 (
                ok.0,
                ok.1,
                ⊎_elim
                    (λ there. absurd (not_late ok.0 Ok there (ap (λ r. r.port) ok.1 ∙ own.port_is)))
                    (λ there. there)
                    (Contains-append_cases x.steps p.steps (Answer ok.0 Ok) ok.2),
              )),
              (λ clear. let ok = y.1 clear in (ok.0, ok.1, Contains-append_right x.steps p.steps (Answer ok.0 Ok) ok.2)),
            );
      }

      -- what was answered is; and who kept no issue keeps none
      pub ended_still : AnswersOkWhatHadEnded old.machine p.steps q → AnswersOkWhatHadEnded old.machine all q
      ended_still answers e there own ended = let y = answers e there own ended in (y.0, y.1, Contains-append_right x.steps p.steps (Answer y.0 Ok) y.2)

      pub in_turn : (e : Pending) → Contains (after old.machine all).book e → Contains (after m x.steps).book e
      in_turn e here = subst (λ (k : Machine). Contains k.book e) whole_is here

      pub anew_still : IssuedOnPortAreIssuedInSteps p.steps m q → IssuedOnPortAreIssuedInSteps all (after old.machine all) q
      anew_still none e here own issued =
          let b = others_were laws (port_at n) m m_reached x.steps x.steps_are_of_turn x.steps_are_enabled e (in_turn e here) (λ is. apart (sym own ∙ is)) in
          issued_early e.request.id x.steps p.steps
          (subst (λ r. list_any (issues_id r.id) p.steps ≡ true) (sym b.2.request)
          (none b.0 b.1 (ap (λ r. r.port) (sym b.2.request) ∙ own) (sym b.2.issued ∙ issued)))

      pub changed_whole : list_any (changes_disk q) p.steps ≡ true → list_any (changes_disk q) all ≡ true
      changed_whole is = any_append (changes_disk q) x.steps p.steps ∙ or_right _ _ is

      pub disk_still : SamePort (ports_of c) (ports_of mid) q → ShownDiskWasInOrCame old p.steps (abstract_state_of c m) q → ShownDiskWasInOrCame old all (abstract_state_of mid (after old.machine all)) q
      disk_still same had shows = ⊎_elim (λ present. inl present) (λ changed. inr (changed_whole changed)) (had (subst ShowsDisk same.1 shows))

      -- ---- what is named of it

      pub named : (evidence : Evidence) → EvidenceAgreesOn q p.evidence evidence → IsStoppedOrStuck p.evidence q → IsStoppedOrStuck evidence q
      named evidence alike i = ⊎_elim (λ stopped. inl (alike.stopped.0 stopped)) (λ stuck. inr (alike.stuck.0 stuck)) i

      pub unnamed : (evidence : Evidence) → EvidenceAgreesOn q p.evidence evidence → IsStoppedOrStuck evidence q → IsStoppedOrStuck p.evidence q
      unnamed evidence alike i = ⊎_elim (λ stopped. inl (alike.stopped.1 stopped)) (λ stuck. inr (alike.stuck.1 stuck)) i

      -- ---- trouble

      module _ (d : IsDone c p.accesses p.steps p.evidence q) where
        -- one that is left ready so far runs
        runs_so_far : state_of (probe_result_of c.probe_results q.0) ≡ ReadyState → EngineRuns q.0 c.device
        runs_so_far ready_c = (p.invariant_with_none_due.in_call_invariant.port_invariant q.0 (ready_found c q.0 p.invariant_with_none_due.in_call_invariant ready_c).0).ready_engine_runs ready_c

        -- where it was stopped so far and left ready, ST was set since the call began
        set_since : state_of (probe_result_of c.probe_results q.0) ≡ ReadyState → IsStoppedOrStuck p.evidence q → length s.device.tape ≤ (c.device.port q.0).notes.st_set_at
        set_since ready_c i = ⊎_elim
            (λ stopped. ⊎_elim
            (λ stops. laws.calls.stopped_port_set_st_since q p.accesses s.device c.device kept.adapter_is_on
            (All-weaker (UsesPortsAndNotGhc (Uses plan old.ports)) (DoesNotWrite Ghc) (λ access serving. serving.1) p.accesses p.serving) p.turn_is_taken stops (runs_so_far ready_c).st_is_set)
            (λ (reset : _ × _). absurd (no_reset plan [] reset.0))
            (d.evidenced.named_stopped_was_stopped_or_reset stopped))
            (λ stuck. ⊎_elim
            (λ (dead : old.ports.state q ≡ Dead). let z : ReadyState ≡ Dead = sym ready_c ∙ (d.becomes.0 dead).1 ∙ dead in absurd cc)
            (λ (lives : old.ports.state q ≢ Dead). let z : ReadyState ≡ Dead = sym ready_c ∙ (d.becomes.1 lives).0.dead_exactly_if_stuck.1 stuck in absurd cc)
            (dead_or_not (old.ports.state q)))
            i

        pub same_self : SamePort old.ports old.ports q
        same_self = (refl, refl, refl, refl, refl, refl)

        pub trouble_still : (evidence : Evidence) → EvidenceAgreesOn q p.evidence evidence → SamePort (ports_of c) (ports_of mid) q
            → ((old.ports.state q ≡ ReadyState) ⊎ (state_of (probe_result_of c.probe_results q.0) ≡ ReadyState) → ShowsFailure (s.device.port q.0) ⊎ ShowsLinkChange (s.device.port q.0) → IsStoppedOrStuck p.evidence q)
            → (state_of (probe_result_of c.probe_results q.0) ≡ ReadyState → ((s.device.port q.0).link_due ≡ false) ⊎ LastSctlWritesResetLink q p.accesses)
            → LosesNoErrorAndRunsWellAnew q p.accesses began p.evidence (ports_of c) c.device → LosesNoErrorAndRunsWellAnew q accesses began evidence (ports_of mid) mid.device
        trouble_still evidence alike same stops_troubled linked did = record {
          loses_no_error = laws.calls.turn_trouble_is_calls q began old (ports_of c) (ports_of mid) mid.device p.evidence evidence kept.adapter_is_on t p.adapter_is_on same alike same_self set_since stops_troubled did.loses_no_error;
          runs_well_anew = laws.calls.turn_running_well_is_calls q began old (ports_of c) (ports_of mid) mid.device p.evidence evidence kept.adapter_is_on t p.adapter_is_on linked same alike (λ ready_c. (runs_so_far ready_c).faults_are_recorded.st_set_is_on_tape) did.runs_well_anew;
        }

        -- a ready port
        module _ (was_ready : old.ports.state q ≡ ReadyState) where
          ready : state_at q.0 ≡ ReadyState
          ready = sym (ap (λ (ports : Ports). ports.state q) ports_are) ∙ was_ready

          pub undue : (s.device.port q.0).link_due ≡ false
          undue = ((kept.port_invariant q.0 (ready_found s q.0 kept ready).0).ready_engine_runs ready).faults_are_recorded.no_link_is_due
