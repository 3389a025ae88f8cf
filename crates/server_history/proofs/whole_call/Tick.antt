-- A tick adds an event to a history.
use Rattle.std.proofs.Common.{ℕ, suc, ◌≡◌, ◌≢◌, ◌⊎◌, ◌<◌, ◌≤◌, ◌&&◌, ◌||◌, ◌==◌, nat_le, Bool, true, false, if◌then◌else◌, List, [], ◌∷◌, ◌++◌, map, refl, sym, ap, ◌∙◌, subst, inl, inr, ⊎_elim, arith, append-nil, eq-eqb, eqb-true, leb-true, le-leb}
use Rattle.std.specs.Prelude.{IsTrue}
use Rattle.std.specs.List.{All, Contains, count_by, list_any}
use Rattle.std.specs.List.Sorted.{IsPermutation}
use Rattle.std.proofs.lemmas.Bool.{and_from, and_parts, cases_Bool, cases_lt, cond-true, false≢true}
use Rattle.std.proofs.lemmas.List.Elements.{All-cons, All-head, All-nil, All-tail, All-weaker, Contains-append_cases, Contains-append_left}
use Rattle.std.proofs.lemmas.List.Sorted.{IsPermutation-refl}
use Rattle.ata_types.specs.declared.Port.{Port}
use Rattle.ata_types.specs.declared.PortState.{PortState}
use Rattle.ata_types.specs.declared.PortState.TheVariants.{Dead, Ready as ReadyState}
use Rattle.ata_types.specs.declared.request.Outcome.{Outcome}
use Rattle.ata_types.specs.declared.request.Outcome.TheVariants as outcome
use Rattle.ata_types.specs.declared.request.Outcome.TheVariants.{PortDead, Unplugged}
use Rattle.ata_types.specs.declared.request.Reply.{Reply}
use Rattle.ata_types.specs.declared.request.RequestId.{RequestId}
use Rattle.hba_regs.specs.declared.reg.PortReg.TheVariants as register
use Rattle.hba_regs.specs.declared.reg.Reg.TheVariants.{Ghc, Px}
use Rattle.adapter.specs.Access.{Access}
use Rattle.adapter.specs.Access.Access.{Loading, Reading, Storing, Writing}
use Rattle.adapter.specs.Device.{Device}
use Rattle.adapter.specs.declared.access.DeviceStep.{DeviceStep}
use Rattle.adapter.specs.declared.command.Operation.TheVariants.{ReadLog}
use Rattle.refinement.specs.Relation.{port_at}
use Rattle.refinement.specs.Fragments.{AccessesNoOtherPort}
use Rattle.refinement.specs.PreservedParts.{DoesNotWrite}
use Rattle.refinement.specs.Slots.{ServesRequest}
use Rattle.block_machine.specs.Events.{AnswersLawfulAndWaitsOnStoppedPorts, AnswersOkWhatHadEnded, AnswersTick, TimesOutAtTick, IssueIsLastOfRequest, UnansweredKeepSerialAndSize, AbstractState, IssuedOnPortAreIssuedInSteps, RestartsTimedOut, Replied, Tick, IsIssuedInBook, answers_of, changes_disk, is_age, issues_id}
use Rattle.block_machine.specs.Histories.{JointEvent, JointState, IsReachable, joint_state_after}
use Rattle.block_machine.specs.Expected.{after}
use Rattle.block_machine.specs.Ports.{IsStoppedOrStuck, Ports, SamePort}
use Rattle.block_machine.specs.DueRequests.{requests_of_port}
use Rattle.block_machine.specs.State.{Machine, Pending, unanswered}
use Rattle.block_machine.specs.Steps.{Step, Age, WaitAgain, Answer, after_step, aged_pending}
use Rattle.server_history.proofs.state.ListMembers.{contains_cases, contains_here, into_map, map_in, none_of}
use Rattle.driver_history.specs.Evidence.{IsEvidenced}
use Rattle.driver_history.specs.Histories.{FindsDone, IssuesDue, PortCorresponds}
use Rattle.driver_history.specs.PortTurn.{KeepsToAnotherPort}
use Rattle.driver_history.specs.AccessTrace.{WritesOneToNoTroubleBit, StaysInDriverFrames, UsesPortsAndNotGhc, WritesNeitherCmdNorSctl}
use Rattle.host_boot.specs.TakeOver.{probe_result_of}
use Rattle.host_boot.specs.declared.ProbeResult.{ProbeResult}
use Rattle.host_boot.specs.declared.ProbeResult.TheVariants.{Ready, Unready, Unserved}
use Rattle.request_queue.specs.BookEntries.{BookEntry, HasOverdueOn}
use Rattle.request_queue.specs.BookRelation.{EntryRelation}
use Rattle.server_history.specs.Prerequisites.{PrerequisiteLaws}
use Rattle.server_history.specs.Histories.{ExtendsToNoneDue, LeadsToServer}
use Rattle.server_history.specs.ServerState.{ServerState, InCallInvariant, MachineRelation, InvariantWithNoneDue, mode_in, ports_of, state_of}
use Rattle.server_history.specs.Turns.{RestingInTick, IsPortTurn, LosesNoErrorAndRunsWellAnew, InRestart, ServingReady, IsByDeviceOrOnSuchPort, Ticks, TakesTickTurn, a_tick_older, joint_state_of, is_ready}
use Rattle.server_history.proofs.plain_calls.OlderRequests.{older_by, older_ended, older_issued, older_request, older_settled, older_stands, serves_on}
use Rattle.server_history.proofs.plain_calls.Acceptances.{any_in}
use Rattle.server_history.proofs.state.DueRequests.{none_due, none_issued}
use Rattle.server_history.proofs.start.NewServer.{kept_fit}
use Rattle.server_history.proofs.state.HistorySteps.{holding, happening_with, lead_with, with_device}
use Rattle.server_history.proofs.any_turn.JoinedParts.{answers_append, lawful_lift, ready_or_not}
use Rattle.server_history.proofs.state.FirstMembers.{nowhere}
use Rattle.server_history.proofs.whole_call.ServiceAndTick.{ATick, Plan, TakesTurn, Uses, turn_at}
use Rattle.server_history.proofs.whole_call.Progress.{HasRested, IsDone, IsRestarted, Progress, begun, idle_done}
use Rattle.server_history.proofs.plain_calls.IssueRounds.{any_append, dues_carried, issued_late, issued_parts, or_none}
use Rattle.server_history.proofs.whole_call.AllTurns.{Whole, go, turns_kept}
use Rattle.server_history.proofs.state.SilentOperations.{silent_none}
use Rattle.server_history.proofs.state.PortSlots.{of_ready, ready_found}
use Rattle.server_history.proofs.state.CallEvidence.{chosen_of, evidenced_of, ready_that, shows_failure, shows_fatal, shows_loss, told_of}
use Rattle.server_history.proofs.any_turn.TurnsInOrder.{belong_join, lawful_join, lawful_on}
use Rattle.server_history.proofs.state.PairedLists.{at_left, at_right}

-- ---- which ports are overdue

abbrev is_overdue : ℕ → BookEntry → Bool
is_overdue port e = e.request.port.0 == port && (e.request.issued && nat_le 3 e.request.age)

abbrev overdue_in : List BookEntry → ℕ → Bool
overdue_in book port = list_any (is_overdue port) book

overdue_is : (book : List BookEntry) (port : ℕ) → overdue_in book port ≡ true → HasOverdueOn (port_at port) book
overdue_is book port is =
    let w = any_in (is_overdue port) book is in
    let a = and_parts (w.0.request.port.0 == port) (w.0.request.issued && nat_le 3 w.0.request.age) w.2 in
    let b = and_parts w.0.request.issued (nat_le 3 w.0.request.age) a.1 in
    (w.0, w.1, (ap port_at (eqb-true w.0.request.port.0 port a.0), b.0, leb-true 3 w.0.request.age b.1))

is_so_overdue : (book : List BookEntry) (port : ℕ) → HasOverdueOn (port_at port) book → overdue_in book port ≡ true
is_so_overdue book port o = ⊎_elim
    (λ so. so)
    (λ not_so.
    let none = none_of (is_overdue port) book o.0 not_so o.1 in
    absurd (false≢true (sym none ∙ and_from (o.0.request.port.0 == port) (o.0.request.issued && nat_le 3 o.0.request.age) (eq-eqb o.0.request.port.0 port (ap (λ (q : Port). q.0) o.2.0)) (and_from o.0.request.issued (nat_le 3 o.0.request.age) o.2.1 (le-leb 3 o.0.request.age o.2.2)))))
    (cases_Bool (overdue_in book port))

-- ---- a port that rests

module _ (laws : PrerequisiteLaws) (port : Port) (low : port.0 < 4) (c : ServerState) (settled : InvariantWithNoneDue c) where
  resting : IsPortTurn RestingInTick port [] c c
  resting = record {
    accesses = [];
    accesses_are_done = refl;
    accesses_are_of_port = All-nil (AccessesNoOtherPort port);
    accesses_are_drivers_own = All-nil StaysInDriverFrames;
    leaves_others = record {
      grants = refl;
      wanted = refl;
      last_id = refl;
      other_probe_results_are_same = λ q apart. refl;
      other_remembered_are_same = λ q apart. refl;
      other_modes_are_same = λ q apart. refl;
      other_slots_are_same = λ q apart. refl;
      others_requests_are_same = λ q apart. refl;
    };
    others_get_no_log_unless_dead = λ q apart lives. silent_none q ReadLog c.device;
    simulates_turn = λ m reached is. record {
      steps = [];
      evidence = told_of (port ∷ []) c.device (ports_of c);
      steps_are_enabled = tt;
      machine_relation = is;
      is_backed = laws.empty_steps_are_backed c.device m;
      steps_are_of_turn = All-nil (IsByDeviceOrOnSuchPort (λ q. q ≡ port));
      steps_are_of_call = tt;
      issues_are_last = tt;
      names_only_port = record {
        lost = All-nil (λ q. q ≡ port);
        link_changed = chosen_of (λ q. q ≡ port) (ready_that shows_loss c.device (ports_of c)) (port ∷ []) its;
        showing_error = chosen_of (λ q. q ≡ port) (ready_that shows_failure c.device (ports_of c)) (port ∷ []) its;
        showing_fatal_error = chosen_of (λ q. q ≡ port) (ready_that shows_fatal c.device (ports_of c)) (port ∷ []) its;
        stopped = All-nil (λ q. q ≡ port);
        stuck = All-nil (λ q. q ≡ port);
      };
      answers_are_lawful = tt;
      requeues_and_aborts_fit_turn = (refl, refl, refl, uninterrupted);
      replies_match = record { answers = []; is_permutation = IsPermutation-refl []; ordered = λ i j d lt below. absurd (omega (arith, lt, below)); replies_are_of_answers = refl };
      unplugged_outcome_empties_port = record { none_is_left = λ e other here there. absurd (nowhere (Answer e Unplugged) here); none_is_told_dead = λ e other here there. absurd (nowhere (Answer e Unplugged) here) };
      port_is_serviced = (λ dead. same, λ lives. (record { served_is_unchanged = refl; dead_exactly_if_stuck = (λ dead. absurd (lives dead), λ named. absurd (nowhere port named)); disk_is_remembered_unless_ready = λ unready. (refl, refl) }, inl same));
      shown_disk_was_in_or_came = inl same;
      same_disk_or_none_unanswered = inl (refl, refl);
      issues_due = λ ready. none_issued c m is [] (λ id. refl) (mode_in c port) port (settled.none_is_due port);
      is_evidenced = evidenced_of (port ∷ []) Tick (Replied []) [] (joint_state_of c m) (ports_of c) c.device port (λ ready. contains_here port [] port refl) (All-nil (WritesNeitherCmdNorSctl port));
      faults_are_told = λ told here. absurd (nowhere told here);
      turn_corresponds = tt;
      finds_done = λ is. let z : RestingInTick ≡ ServingReady = is in absurd cc;
    };
  }
    where
      same : SamePort (ports_of c) (ports_of c) port
      same = (refl, refl, refl, refl, refl, refl)

      its : All (λ q. q ≡ port) (port ∷ [])
      its = All-cons (λ q. q ≡ port) port [] refl (All-nil (λ q. q ≡ port))

      uninterrupted : IsStoppedOrStuck (told_of (port ∷ []) c.device (ports_of c)) port → ⊥
      uninterrupted i = ⊎_elim (λ stopped. nowhere port stopped) (λ stuck. nowhere port stuck) i

-- ---- steps, and the tick before them

-- what stands among the steps and the tick, and is no tick, stands among the steps
among : (ready : Port → Bool) (steps : List Step) (step : Step) → step ≢ Age ready → Contains (steps ++ Age ready ∷ []) step → Contains steps step
among ready steps step other here = ⊎_elim
    (λ late. late)
    (λ first. absurd (other (⊎_elim (λ is. is) (λ none. absurd (nowhere step none)) (contains_cases (Age ready) [] step first))))
    (Contains-append_cases steps (Age ready ∷ []) step here)

last_after : (ready : Port → Bool) (steps : List Step) → IssueIsLastOfRequest steps → IssueIsLastOfRequest (steps ++ Age ready ∷ [])
last_after ready [] last = (tt, λ id h i. false≢true h)
last_after ready (step ∷ steps) last = (
  last_after ready steps last.0,
  λ id h i. ⊎_elim (λ early. last.1 id h early) (λ first. false≢true first) (issued_parts id steps (Age ready ∷ []) i),
)

no_ages : (Such : Port → Type 0) (steps : List Step) → All (IsByDeviceOrOnSuchPort Such) steps → count_by is_age steps ≡ 0
no_ages Such [] of = refl
no_ages Such (Age ready ∷ steps) of = absurd (All-head (IsByDeviceOrOnSuchPort Such) (Age ready) steps of)
no_ages Such (step ∷ steps) of = no_ages Such steps (All-tail (IsByDeviceOrOnSuchPort Such) step steps of)

-- accesses that serve such ports serve others
serving_on : (One Other : Port → Type 0) → ((q : Port) → One q → Other q) → (access : Access) → UsesPortsAndNotGhc One access → UsesPortsAndNotGhc Other access
serving_on One Other each (Reading (Px port r) v) is = (is.0, is.1, each port is.2)
serving_on One Other each (Reading r v) is = (is.0, is.1, tt)
serving_on One Other each (Writing (Px port r) v) is = (is.0, is.1, each port is.2)
serving_on One Other each (Writing r v) is = (is.0, is.1, tt)
serving_on One Other each (Loading at bytes) is = (is.0, is.1, tt)
serving_on One Other each (Storing at bytes) is = (is.0, is.1, tt)

-- accesses of another port clear no bit that tells of this one's trouble
other_clears_none : (port : Port) (access : Access) → KeepsToAnotherPort port access → WritesOneToNoTroubleBit port access
other_clears_none port (Writing (Px at r) v) (other, apart, of) = record {
  pxis_trouble_is_kept = λ q. let z : Px at r ≡ Px port register.Is = q in absurd (apart (ap (λ (p : Port). p.0) (sym (let same : at ≡ port = cc in same) ∙ of)));
  serr_trouble_is_kept = λ q. let z : Px at r ≡ Px port register.Serr = q in absurd (apart (ap (λ (p : Port). p.0) (sym (let same : at ≡ port = cc in same) ∙ of)));
}
other_clears_none port (Writing r v) (other, apart, of) = record { pxis_trouble_is_kept = λ q. absurd cc; serr_trouble_is_kept = λ q. absurd cc }
other_clears_none port (Reading r v) of = tt
other_clears_none port (Loading at bytes) of = tt
other_clears_none port (Storing at bytes) of = tt

-- ---- the event

module _ (laws : PrerequisiteLaws) (s new : ServerState) (replies : List Reply) (start : InvariantWithNoneDue s) (ticks : Ticks replies s new) (first : JointState Device) (past : List (JointEvent Device DeviceStep)) (leads : LeadsToServer first past s) where
  abbrev kept : InCallInvariant s
  kept = start.in_call_invariant

  abbrev was : AbstractState
  was = (joint_state_after first past).abstract

  at : MachineRelation s was.machine
  at = leads.state_is_at_history_end.machine_stands_for_it

  same : was.ports ≡ ports_of s
  same = leads.state_is_at_history_end.ports_are

  reached : IsReachable was.machine
  reached = laws.steps_and_accesses.history_machine_is_reachable s.wanted first past leads.history

  abbrev ready : Port → Bool
  ready port = is_ready (probe_result_of s.probe_results port.0)

  -- requests get older first
  abbrev aged : ServerState
  aged = a_tick_older s

  abbrev old : AbstractState
  old = record { machine = after_step was.machine (Age ready); ports = was.ports }

  aged_start : InvariantWithNoneDue aged
  aged_start = older_settled laws s start

  aged_at : MachineRelation aged old.machine
  aged_at = older_stands laws s was.machine at

  aged_reached : IsReachable old.machine
  aged_reached = laws.steps_and_accesses.reachable_stays_reachable was.machine (Age ready ∷ []) reached (tt, tt)

  abbrev hung : ℕ → Bool
  hung port = overdue_in aged.book port

  abbrev plan : Plan
  plan = ATick hung

  -- a port's turn is a part of the tick
  turn_part : (n : ℕ) (c mid : ServerState) (before its : List Reply) → state_of (probe_result_of aged.probe_results n) ≡ ReadyState → Progress plan laws aged aged_start old aged_reached aged_at same n c before → TakesTickTurn aged.book (port_at n) its c mid
      → IsPortTurn (turn_at plan (probe_result_of s.probe_results n) n) (port_at n) its c mid
  turn_part n c mid before its is_ready_n p (inl (overdue, handling, is_hung, part)) =
      subst (λ (b : Bool). IsPortTurn (if b then InRestart else RestingInTick) (port_at n) its c mid) (sym (is_so_overdue aged.book n overdue)) part
  turn_part n c mid before its is_ready_n p (inr (young, none, still)) =
      subst (λ (b : Bool). IsPortTurn (if b then InRestart else RestingInTick) (port_at n) its c mid)
      (sym (⊎_elim (λ so. absurd (young (overdue_is aged.book n so))) (λ not_so. not_so) (cases_Bool (hung n))))
      (subst (IsPortTurn RestingInTick (port_at n) its c) (sym still) (subst (λ (list : List Reply). IsPortTurn RestingInTick (port_at n) list c c) (sym none) (resting laws (port_at n) (ready_found s n kept is_ready_n).0 c p.invariant_with_none_due)))

  -- another port is passed over
  other_part : (n : ℕ) (c mid : ServerState) (before : List Reply) (state : PortState) → probe_result_of s.probe_results n ≡ Unready state → Progress plan laws aged aged_start old aged_reached aged_at same n c before → mid ≡ c
      → ((TakesTurn plan (probe_result_of s.probe_results n) → ⊥) × (mid ≡ c)) ⊎ (TakesTurn plan (probe_result_of s.probe_results n) × IsPortTurn (turn_at plan (probe_result_of s.probe_results n) n) (port_at n) [] c mid)
  other_part n c mid before state is p still = inl (λ is_ready_n. let z : Unready state ≡ Ready _ = sym is ∙ (ready_found s n kept is_ready_n).1.1 in absurd cc, still)

  ends : Whole plan laws aged aged_start old aged_reached aged_at same new replies
  ends = go plan laws aged aged_start old aged_reached aged_at same (TakesTickTurn aged.book) (λ port one other. other ≡ one) turn_part other_part s.probe_results 0 (λ i. ap (λ (k : ℕ). probe_result_of s.probe_results k) (omega arith)) aged new [] replies (begun plan laws aged aged_start old aged_reached aged_at same) ticks

  p : Progress plan laws aged aged_start old aged_reached aged_at same ends.count new replies
  p = ends.progress

  abbrev steps : List Step
  steps = p.steps ++ Age ready ∷ []

  abbrev holds : InCallInvariant new
  holds = p.invariant_with_none_due.in_call_invariant

  abbrev end : AbstractState
  end = record { machine = after was.machine steps; ports = ports_of new }

  whole_is : after was.machine steps ≡ after old.machine p.steps
  whole_is = laws.steps_and_accesses.after_joins was.machine p.steps (Age ready ∷ [])

  in_end : (e : Pending) → Contains end.machine.book e → Contains (after old.machine p.steps).book e
  in_end e here = subst (λ (k : Machine). Contains k.book e) whole_is here

  state_is : (port : Port) → was.ports.state port ≡ state_of (probe_result_of s.probe_results port.0)
  state_is port = ap (λ (ports : Ports). ports.state port) same

  -- what is so of each port at the end
  done : (port : Port) → IsDone plan laws aged aged_start old aged_reached aged_at same new p.accesses p.steps p.evidence port
  done port = ⊎_elim
      (λ less. p.done port less)
      (λ most. idle_done plan laws aged aged_start old aged_reached aged_at same ends.count new replies p port (ends.steps_since port.0 most))
      (cases_lt port.0 ends.count)

  -- ---- which ports are hung

  abbrev IsToRestart : Port → Type 0
  IsToRestart port = (was.ports.state port ≡ ReadyState) × (hung port.0 ≡ true)

  is_hung : (port : Port) → IsToRestart port → TimesOutAtTick was port
  is_hung port (is_ready_now, so) =
      let o = overdue_is aged.book port.0 so in
      let y = at_left EntryRelation aged.book old.machine.book aged_at.book o.0 o.1 in
      let w = map_in (aged_pending ready) was.machine.book y.0 y.1 in
      let own = o.2.0 in
      let age = y.2.age in
      let three = o.2.2 in
      let at_most = older_by (λ x. x.age ≤ suc w.0.age) ready w.0 (omega arith) (omega arith) in
      let its_age : y.0.age ≡ (aged_pending ready w.0).age = ap (λ (x : Pending). x.age) w.2 in
      record {
        ready = is_ready_now;
        pending = w.0;
        is_in_book = w.1;
        port_is = sym (ap (λ r. r.port) (older_request ready w.0)) ∙ ap (λ (x : Pending). x.request.port) (sym w.2) ∙ y.2.port ∙ own;
        issued = sym (older_issued ready w.0) ∙ ap (λ (x : Pending). x.issued) (sym w.2) ∙ y.2.issued ∙ o.2.1;
        old_enough = omega (arith, age, three, at_most, its_age);
      }

  is_restarted : (port : Port) → TimesOutAtTick was port → IsToRestart port
  is_restarted port h = (h.ready, is_so_overdue aged.book port.0 overdue)
    where
      ready_now : ready h.pending.request.port ≡ true
      ready_now =
          let f = ready_found s port.0 kept (sym (state_is port) ∙ h.ready) in
          ap (λ (q : Port). is_ready (probe_result_of s.probe_results q.0)) h.port_is ∙ ap is_ready f.1.1

      older_is : aged_pending ready h.pending ≡ record (h.pending) { age = suc h.pending.age }
      older_is = cond-true (h.pending.issued && ready h.pending.request.port) (record (h.pending) { age = suc h.pending.age }) h.pending (and_from h.pending.issued (ready h.pending.request.port) h.issued ready_now)

      overdue : HasOverdueOn (port_at port.0) aged.book
      overdue =
          let x = at_right EntryRelation aged.book old.machine.book aged_at.book (aged_pending ready h.pending) (into_map (aged_pending ready) was.machine.book h.pending h.is_in_book) in
          let age = x.2.age in
          let its : (aged_pending ready h.pending).age ≡ suc h.pending.age = ap (λ (y : Pending). y.age) older_is in
          let two = h.old_enough in (
            x.0,
            x.1,
            (
              sym x.2.port ∙ ap (λ r. r.port) (older_request ready h.pending) ∙ h.port_is,
              sym x.2.issued ∙ older_issued ready h.pending ∙ h.issued,
              omega (arith, age, its, two),
            ),
          )

  -- each port was restarted, or let rest
  restarted_or_not : (port : Port) → (IsToRestart port × IsRestarted (record { device = s.device; abstract = old }) port p.accesses new p.evidence p.steps) ⊎ ((IsToRestart port → ⊥) × HasRested old port p.accesses new p.evidence p.steps)
  restarted_or_not port = ⊎_elim
      (λ (is : was.ports.state port ≡ ReadyState). ⊎_elim
      (λ (so : hung port.0 ≡ true). inl ((is, so), (done port).ties.restarted is so))
      (λ (not_so : hung port.0 ≡ false).
      let never : (hung port.0 ≡ true) → ⊥ = λ so. false≢true (sym not_so ∙ so) in
      inr (λ r. never r.1, (done port).ties.rested (λ _ so. never so)))
      (cases_Bool (hung port.0)))
      (λ (not : was.ports.state port ≢ ReadyState). inr (λ r. not r.0, (done port).ties.rested (λ is so. not is)))
      (ready_or_not (was.ports.state port))

  -- ---- requests, before and after the tick

  aged_in : (e : Pending) → Contains was.machine.book e → Contains old.machine.book (aged_pending ready e)
  aged_in e here = into_map (aged_pending ready) was.machine.book e here

  ended_before : (port : Port) → AnswersOkWhatHadEnded old.machine p.steps port → AnswersOkWhatHadEnded was.machine steps port
  ended_before port answers e here own ended =
      let y = answers (aged_pending ready e) (aged_in e here) (ap (λ r. r.port) (older_request ready e) ∙ own) (older_ended ready e ∙ ended) in
      (y.0, y.1 ∙ older_request ready e, Contains-append_left p.steps (Age ready ∷ []) (Answer y.0 outcome.Ok) y.2)

  issued_before : (id : RequestId) → IsIssuedInBook old.machine id → IsIssuedInBook was.machine id
  issued_before id w =
      let y = map_in (aged_pending ready) was.machine.book w.pending w.is_in_book in
      record {
        pending = y.0;
        is_in_book = y.1;
        id_is = ap (λ r. r.id) (sym (older_request ready y.0)) ∙ ap (λ (x : Pending). x.request.id) (sym y.2) ∙ w.id_is;
        issued = sym (older_issued ready y.0) ∙ ap (λ (x : Pending). x.issued) (sym y.2) ∙ w.issued;
      }

  anew_before : (port : Port) → IssuedOnPortAreIssuedInSteps p.steps (after old.machine p.steps) port → IssuedOnPortAreIssuedInSteps steps end.machine port
  anew_before port none e here own issued = issued_late e.request.id p.steps (Age ready ∷ []) (none e (in_end e here) own issued)

  any_of : (f : Step → Bool) → f (Age ready) ≡ false → list_any f steps ≡ list_any f p.steps
  any_of f none = any_append f p.steps (Age ready ∷ []) ∙ ap (λ (b : Bool). list_any f p.steps || (b || false)) none ∙ or_none (list_any f p.steps)

  finds_before : (port : Port) → FindsDone port p.accesses (record { device = s.device; abstract = old }) p.steps → FindsDone port p.accesses (with_device s.device (joint_state_after first past)) steps
  finds_before port f = record {
    ci = f.ci;
    sact = f.sact;
    reads = f.reads;
    answered_iff_done = λ e slot own says.
        let id : (aged_pending ready e).request ≡ e.request = older_request ready e in
        let y = f.answered_iff_done (aged_pending ready e) slot
        (record { is_in_book = aged_in e own.is_in_book; port_is = ap (λ r. r.port) id ∙ own.port_is; issued = older_issued ready e ∙ own.issued })
        (subst (λ r. ServesRequest old.machine s.device.memory (s.device.port port.0) port.0 slot r.id) (sym id) (serves_on s.device.memory (s.device.port port.0) port.0 slot was.machine ready e.request.id says)) in (
          (λ ok. y.0 (ok.0, ok.1 ∙ sym id, among ready p.steps (Answer ok.0 outcome.Ok) (λ z. let z2 : Answer ok.0 outcome.Ok ≡ Age ready = z in cc) ok.2)),
          (λ clear. let ok = y.1 clear in (ok.0, ok.1 ∙ id, Contains-append_left p.steps (Age ready ∷ []) (Answer ok.0 outcome.Ok) ok.2)),
        );
  }

  in_steps : (e : Pending) (o : Outcome) → Contains steps (Answer e o) → Contains p.steps (Answer e o)
  in_steps e o here = among ready p.steps (Answer e o) (λ z. let z2 : Answer e o ≡ Age ready = z in cc) here

  again_in : (e : Pending) → Contains steps (WaitAgain e) → Contains p.steps (WaitAgain e)
  again_in e here = among ready p.steps (WaitAgain e) (λ z. let z2 : WaitAgain e ≡ Age ready = z in cc) here

  -- ---- what the tick says and does

  answered_hung : (e : Pending) (o : Outcome) → Contains p.steps (Answer e o) → IsToRestart e.request.port
  answered_hung e o here = ⊎_elim (λ r. r.0) (λ r. absurd (r.1.answer e o here refl)) (restarted_or_not e.request.port)

  none_waits : (port : Port) → state_of (probe_result_of new.probe_results port.0) ≢ ReadyState → (e : Pending) → Contains end.machine.book e → e.request.port ≢ port
  none_waits port other e here own =
      let a = at_right EntryRelation new.book (after old.machine p.steps).book p.machine_relation.book e (in_end e here) in
      other (ap (λ (q : Port). state_of (probe_result_of new.probe_results q.0)) (sym own ∙ a.2.port) ∙ of_ready new holds a.0 a.1)

  -- a port that is to be restarted was
  module _ (port : Port) (h : TimesOutAtTick was port) where
    restart : IsRestarted (record { device = s.device; abstract = old }) port p.accesses new p.evidence p.steps
    restart = (done port).ties.restarted h.ready (is_restarted port h).1

  restarts : RestartsTimedOut was p.evidence steps end
  restarts = record {
    each_port_is_same_or_restarts = λ port. ⊎_elim
        (λ r. inr (is_hung port r.0, ((done port).becomes.1 (λ dead. let z : ReadyState ≡ Dead = sym r.0.0 ∙ dead in absurd cc)).0))
        (λ r. inl (λ h. r.0 (is_restarted port h), r.1.same))
        (restarted_or_not port);
    only_timed_out_wait_again = λ e here. ⊎_elim (λ r. is_hung e.request.port r.0) (λ r. absurd (r.1.again e (again_in e here) refl)) (restarted_or_not e.request.port);
    only_timed_out_are_answered = λ e o here. is_hung e.request.port (answered_hung e o (in_steps e o here));
    answers_ok_what_had_ended = λ port h. ended_before port (restart port h).ended;
    issued_are_issued_in_steps = λ port h. anew_before port (restart port h).anew;
    timed_out_iff_stopped_or_stuck = λ port. (λ h. (restart port h).interrupts, λ i. ⊎_elim (λ r. is_hung port r.0) (λ r. absurd (r.1.uninterrupted i)) (restarted_or_not port));
    unplugged_lost_disk = λ e here.
        let early = in_steps e Unplugged here in
        (restart e.request.port (is_hung e.request.port (answered_hung e Unplugged early))).another e early refl;
    shown_disk_was_in_or_came = λ port h shows. ⊎_elim (λ present. inl present) (λ changed. inr (any_of (changes_disk port) refl ∙ changed)) ((restart port h).disk shows);
  }

  all_answered : AnswersTick was p.evidence steps replies end
  all_answered = record {
    replies_match = record {
      answers = p.answers;
      is_permutation = subst (IsPermutation p.answers) (sym (answers_append p.steps (Age ready ∷ []) ∙ append-nil (answers_of p.steps))) p.permuted;
      ordered = p.book_is_in_order;
      replies_are_of_answers = p.told;
    };
    ages_once = record {
      ready_ports = ready;
      is_ready = λ port. (
        λ so. state_is port ∙ state_if (probe_result_of s.probe_results port.0) so,
        λ is. let f = ready_found s port.0 kept (sym (state_is port) ∙ is) in subst (λ (found : ProbeResult). IsTrue (is_ready found)) (sym f.1.1) refl,
      );
      later = p.steps;
      age_is_first = refl;
      no_other_age = no_ages (λ q. (q.0 < ends.count) × TakesTurn plan (probe_result_of aged.probe_results q.0)) p.steps p.of;
    };
    restarts_timed_out = restarts;
    unplugged_outcome_empties_port = record {
      none_is_left = λ e other here there. p.unplugs.none_is_left e other (in_steps e Unplugged here) (in_end other there);
      none_is_told_dead = λ e other here there. p.unplugs.none_is_told_dead e other (in_steps e Unplugged here) (in_steps other PortDead there);
    };
    none_is_due_where_ready = λ port is. none_due new end.machine stands_then (mode_in new port) port (p.invariant_with_none_due.none_is_due port);
    was_ready_empty_unless_ready = λ port _. none_waits port;
  }
    where
      state_if : (found : ProbeResult) → IsTrue (is_ready found) → state_of found ≡ ReadyState
      state_if (Ready info) so = refl
      state_if Unserved so = absurd (false≢true so)
      state_if (Unready state) so = absurd (false≢true so)

      stands_then : MachineRelation new end.machine
      stands_then = subst (MachineRelation new) (sym whole_is) p.machine_relation

  keeps : UnansweredKeepSerialAndSize was end
  keeps e o here there same_id = ⊎_elim (λ d. d) (λ none. absurd (none e (in_end e here) refl)) (done e.request.port).keeps

  evidenced : IsEvidenced Tick (Replied replies) p.accesses (with_device s.device (joint_state_after first past)) (ports_of new) new.device p.evidence
  evidenced = record {
    faults_are_told = λ told here. absurd (nowhere told (subst (λ list. Contains list told) p.owes here));
    each_port_is_evidenced = λ port.
        let v = (done port).evidenced in
        record {
          named_lost_showed_loss_or_changed = v.named_lost_showed_loss_or_changed;
          shown_loss_of_ready_is_named = v.shown_loss_of_ready_is_named;
          named_link_changed_had_change_or_no_device = v.named_link_changed_had_change_or_no_device;
          shown_failure_of_ready_is_named = v.shown_failure_of_ready_is_named;
          named_showing_error_had_error = v.named_showing_error_had_error;
          shown_fatal_of_ready_is_named = v.shown_fatal_of_ready_is_named;
          named_showing_fatal_had_fatal = v.named_showing_fatal_had_fatal;
          engine_is_left_or_stopped = v.engine_is_left_or_stopped;
          named_stopped_was_stopped_or_reset = v.named_stopped_was_stopped_or_reset;
          stuck_only = v.stuck_only;
        };
  }

  lawful : AnswersLawfulAndWaitsOnStoppedPorts was p.evidence (ports_of new) steps
  lawful = lawful_join was p.evidence (ports_of new) p.steps (Age ready ∷ [])
      (lawful_on old was p.evidence p.evidence (ports_of new) (ports_of new) p.steps
      (λ e o here l. lawful_lift old was p.evidence p.evidence (ports_of new) (ports_of new) e o (issued_before e.request.id) (λ told x. x) (λ x. x) (λ x. x) refl (λ d. d) l)
      (λ e here x. x)
      p.lawful)
      tt

  -- ---- what it has done of each port

  trouble_of : (port : Port) → LosesNoErrorAndRunsWellAnew port p.accesses (record { device = s.device; abstract = old }) p.evidence (ports_of new) new.device
  trouble_of port = ⊎_elim
      (λ r. r.1.heeds)
      (λ r. record {
        loses_no_error = laws.calls.ordinary_accesses_lose_no_error port (record { device = s.device; abstract = old }) new.device p.accesses p.evidence (ports_of new) kept.adapter_is_on p.turn_is_taken
            (All-weaker (UsesPortsAndNotGhc (Uses plan old.ports)) (DoesNotWrite Ghc) (λ access serving. serving.1) p.accesses p.serving)
            (All-weaker (KeepsToAnotherPort port) (WritesOneToNoTroubleBit port) (other_clears_none port) p.accesses r.1.others);
        runs_well_anew = λ i. absurd (r.1.uninterrupted i);
      })
      (restarted_or_not port)

  port_part : (port : Port) → PortCorresponds (with_device s.device (joint_state_after first past)) (happening_with p.evidence new.device Tick (Replied replies) steps (ports_of new)) p.accesses port
  port_part port =
      let t = trouble_of port in
      record {
        finds_done = λ h. finds_before port (restart port h).finds;
        lone_plain_faults_are_told_unless_dead = tt;
        probes_disk = tt;
        boots_anew = λ h. (restart port h).boots;
        loses_no_error = record { ready_errors_are_handled_or_shown = t.loses_no_error.ready_errors_are_handled_or_shown; changes_are_handled_or_shown_unless_dead = t.loses_no_error.changes_are_handled_or_shown_unless_dead; ready_shows_fault_since_start = t.loses_no_error.ready_shows_fault_since_start; ready_shows_fatal_since_start = t.loses_no_error.ready_shows_fatal_since_start; ready_shows_plug_event_since_start = t.loses_no_error.ready_shows_plug_event_since_start };
        runs_well_anew = t.runs_well_anew;
        handles_evidence = tt;
      }

  due_then : (port : Port) → state_of (probe_result_of new.probe_results port.0) ≡ ReadyState → IssuesDue (mode_in new port) steps end.machine port
  due_then port is = dues_carried laws (mode_in new port) p.steps steps (after old.machine p.steps) end.machine port (ap (λ (k : Machine). requests_of_port port (map unanswered k.book)) (sym whole_is))
      (λ r here own. sym (any_of (issues_id r.id) refl)) (p.due port is)

  pub tick_event : (h : JointEvent Device DeviceStep) × (h.event.call ≡ Tick) × (h.event.result ≡ Replied replies) × LeadsToServer first (h ∷ past) new
  tick_event =
      lead_with laws first past s new Tick (Replied replies) p.evidence steps p.wanted leads (holding new holds) (kept_fit new holds)
      (laws.steps_and_accesses.enabled_lists_join was.machine p.steps (Age ready ∷ []) (tt, tt) p.turns.may)
      (belong_join Tick (ports_of new) p.steps (Age ready ∷ []) p.belong (tt, inr tt))
      (last_after ready p.steps p.turns.last)
      lawful keeps all_answered tt
      p.accesses
      (p.turn_is_taken, All-weaker (UsesPortsAndNotGhc (Uses plan old.ports)) (UsesPortsAndNotGhc (TimesOutAtTick was)) (serving_on (Uses plan old.ports) (TimesOutAtTick was) (λ q used. is_hung q used)) p.accesses p.serving)
      evidenced
      due_then
      port_part
      (laws.backed_parts_join s.device s.device new.device was.machine (Age ready ∷ []) p.steps (laws.drivers_own_step_is_backed s.device was.machine (Age ready) (λ x. x)) p.backed)
      (subst (MachineRelation new) (sym whole_is) p.machine_relation)

pub law_ticks_extend_history : PrerequisiteLaws → (s new : ServerState) (replies : List Reply) → InvariantWithNoneDue s → Ticks replies s new → ExtendsToNoneDue s new Tick (Replied replies)
law_ticks_extend_history laws s new replies start ticks = record {
  invariant_with_none_due = turns_kept (TakesTickTurn (a_tick_older s).book) (λ port one other. other ≡ one) s.probe_results 0 (a_tick_older s) new replies (older_settled laws s start) ticks;
  extends_history = λ first past leads. tick_event laws s new replies start ticks first past leads;
}
