-- What was done so far in a call, in which ports have their turns one after another.
use Rattle.std.proofs.Common.{Bool, ◌⊎◌, ℕ, ◌≡◌, ◌≢◌, ◌≤◌, ◌<◌, ◌+◌, true, List, [], map, refl, sym, ap, ◌∙◌, subst, inl, ⊎_elim, arith, inr}
use Rattle.std.specs.List.{All, AllPairs, Contains}
use Rattle.std.specs.List.Sorted.{IsPermutation}
use Rattle.std.proofs.lemmas.Bool.{cases_lt}
use Rattle.std.proofs.lemmas.List.Elements.{All-nil, All-contains, All-weaker}
use Rattle.std.proofs.lemmas.List.Sorted.{IsPermutation-refl}
use Rattle.ata_types.specs.declared.Port.{Port}
use Rattle.ata_types.specs.declared.PortState.{PortState}
use Rattle.ata_types.specs.declared.PortState.TheVariants.{Absent, Dead, Ready as ReadyState}
use Rattle.ata_types.specs.declared.request.Outcome.{Outcome}
use Rattle.ata_types.specs.declared.request.Outcome.TheVariants.{Unplugged}
use Rattle.ata_types.specs.declared.request.Reply.{Reply}
use Rattle.hba_regs.specs.declared.reg.PortReg.TheVariants.{Cmd, Sctl}
use Rattle.adapter.specs.Access.{Access, DoesAll}
use Rattle.adapter.specs.Commands.{is_queued}
use Rattle.adapter.specs.Device.{Device}
use Rattle.adapter.specs.Rules.{IsOn}
use Rattle.refinement.specs.Driver.{TapeBacksSteps}
use Rattle.block_machine.specs.Events.{AnswersLawfulAndWaitsOnStoppedPorts, AnswersOkWhatHadEnded, AreStepsOfCall, ShownDiskWasInOrCame, IsLowerByPortThenId, AbstractState, IssuedOnPortAreIssuedInSteps, Replied, UnpluggedOutcomeEmptiesPort, answers_of, reply_of}
use Rattle.block_machine.specs.Histories.{JointState, IsReachable}
use Rattle.block_machine.specs.Expected.{after}
use Rattle.block_machine.specs.Ports.{Evidence, RequestFault, IsStoppedOrStuck, MayBecomeInService, Ports, SameSerialAndSize, SamePort}
use Rattle.block_machine.specs.State.{Pending}
use Rattle.block_machine.specs.Steps.{Step, WaitAgain, Answer}
use Rattle.host_boot.specs.TakeOver.{probe_result_of}
use Rattle.driver_history.specs.Evidence.{IsEvidencedOf, IsFaultTold}
use Rattle.driver_history.specs.Histories.{FindsDone, IsForeignOrUnfit, IssuesDue, PortCorresponds}
use Rattle.driver_history.specs.PortInvariants.{HasNoUnanswered}
use Rattle.driver_history.specs.PortTurn.{NoLinkDueAfterXUnlessAbsentDeadOrDiskComes, KeepsToAnotherPort}
use Rattle.driver_history.specs.AccessTrace.{UsesPortsAndNotGhc, WritesNeitherCmdNorSctl, LastSctlWritesResetLink}
use Rattle.server_history.specs.Prerequisites.{PrerequisiteLaws}
use Rattle.server_history.specs.Turns.{LosesNoErrorAndRunsWellAnew, ServingReady, IsByDeviceOrOnSuchPort, abstract_state_of, joint_event_of_turn}
use Rattle.server_history.proofs.whole_call.ServiceAndTick.{AService, ATick, OwesBy, Plan, TakesTurn, Uses, asks_for, owes_nothing, ready_takes}
use Rattle.server_history.specs.ServerState.{ServerState, InCallInvariant, MachineRelation, InvariantWithNoneDue, mode_at, mode_in, ports_of, remembered_at, slots_at, state_of}
use Rattle.server_history.proofs.state.DueRequests.{none_issued}
use Rattle.server_history.proofs.state.CallEvidence.{no_evidence}
use Rattle.server_history.proofs.any_turn.TurnsInOrder.{AreTurns, again_of, all_of_ports, answered_of, no_turns, turns_more}
use Rattle.server_history.proofs.any_turn.JoinedParts.{NamesSome, names_more, same_at}
use Rattle.server_history.proofs.state.FirstMembers.{nowhere}
use Rattle.server_history.proofs.unready_turn.UnfitPort.{bad_tends}

-- ---- what was done so far of a port

-- A tick has restarted the port.
pub record IsRestarted (old : JointState Device) (port : Port) (accesses : List Access) (c : ServerState) (evidence : Evidence) (steps : List Step) : Type 0 where
  pub finds : FindsDone port accesses old steps
  pub boots : (state_of (probe_result_of c.probe_results port.0) ≡ Dead) ⊎ LastSctlWritesResetLink port accesses
  pub ended : AnswersOkWhatHadEnded old.abstract.machine steps port
  pub interrupts : IsStoppedOrStuck evidence port
  pub anew : IssuedOnPortAreIssuedInSteps steps (after old.abstract.machine steps) port
  pub another : (e : Pending) → Contains steps (Answer e Unplugged) → e.request.port ≡ port
      → (state_of (probe_result_of c.probe_results port.0) ≢ Dead) × (state_of (probe_result_of c.probe_results port.0) ≡ ReadyState → SameSerialAndSize old.abstract.ports (ports_of c) port → ⊥)
  pub disk : ShownDiskWasInOrCame old.abstract steps (abstract_state_of c (after old.abstract.machine steps)) port
  pub heeds : LosesNoErrorAndRunsWellAnew port accesses old evidence (ports_of c) c.device

-- It has let the port rest.
pub record HasRested (old : AbstractState) (port : Port) (accesses : List Access) (c : ServerState) (evidence : Evidence) (steps : List Step) : Type 0 where
  pub others : All (KeepsToAnotherPort port) accesses
  pub same : SamePort old.ports (ports_of c) port
  pub uninterrupted : IsStoppedOrStuck evidence port → ⊥
  pub again : (e : Pending) → Contains steps (WaitAgain e) → e.request.port ≢ port
  pub answer : (e : Pending) (o : Outcome) → Contains steps (Answer e o) → e.request.port ≢ port

-- A tick has restarted the port, or let it rest.
pub record HasTicked (hung : ℕ → Bool) (s : ServerState) (old : AbstractState) (port : Port) (accesses : List Access) (c : ServerState) (evidence : Evidence) (steps : List Step) : Type 0 where
  pub restarted : old.ports.state port ≡ ReadyState → hung port.0 ≡ true → IsRestarted (record { device = s.device; abstract = old }) port accesses c evidence steps
  pub rested : (old.ports.state port ≡ ReadyState → hung port.0 ≡ true → ⊥) → HasRested old port accesses c evidence steps

abbrev pub TiesSoFar : Plan → ServerState → AbstractState → Port → List Access → ServerState → Evidence → List Step → Type 0
TiesSoFar AService s old port accesses c evidence steps =
    PortCorresponds (record { device = s.device; abstract = old }) (joint_event_of_turn ServingReady [] c evidence steps) accesses port × NoLinkDueAfterXUnlessAbsentDeadOrDiskComes port (record { device = s.device; abstract = old }) (ports_of c) c.device
TiesSoFar (ATick hung) s old port accesses c evidence steps = HasTicked hung s old port accesses c evidence steps

-- nothing is done of a port that had no turn
rested_ties : (plan : Plan) (s : ServerState) (old : AbstractState) (port : Port) (accesses : List Access) (c : ServerState) (evidence : Evidence) (steps : List Step) → old.ports ≡ ports_of s → (TakesTurn plan (probe_result_of s.probe_results port.0) → ⊥) → HasRested old port accesses c evidence steps
    → TiesSoFar plan s old port accesses c evidence steps
rested_ties AService s old port accesses c evidence steps ports_are not rests = (
  record {
    finds_done = λ ready. absurd (unready ready);
    lone_plain_faults_are_told_unless_dead = λ alone. absurd (unready alone.ready);
    probes_disk = λ served comes. record {
      absent_with_device_is_booted_dead_or_has_plug_event = λ absent. absurd (not (sym (ap (λ (ports : Ports). ports.served port) ports_are) ∙ served, λ dead. let z : Absent ≡ Dead = sym absent ∙ state_was ∙ dead in cc));
      absent_gets_first_fis_or_dead_or_no_device = λ absent. absurd (not (sym (ap (λ (ports : Ports). ports.served port) ports_are) ∙ served, λ dead. let z : Absent ≡ Dead = sym absent ∙ state_was ∙ dead in cc));
      missing_disk_makes_absent_or_dead = λ bad. absurd (no_bad bad);
      changed_disk_is_booted_or_absent_or_dead = λ bad. absurd (no_bad bad);
    };
    boots_anew = (λ ready. absurd (unready ready), inl rests.same);
    loses_no_error = record {
      ready_errors_are_handled_or_shown = λ ready. absurd (unready ready);
      changes_are_handled_or_shown_unless_dead = λ tends. absurd (not (sym (ap (λ (ports : Ports). ports.served port) ports_are) ∙ tends.0, λ dead. tends.1 (state_was ∙ dead)));
      ready_shows_fault_since_start = λ ready. absurd (unready (sym rests.same.1 ∙ ready));
      ready_shows_fatal_since_start = λ ready. absurd (unready (sym rests.same.1 ∙ ready));
      ready_shows_plug_event_since_start = λ ready. absurd (unready (sym rests.same.1 ∙ ready));
    };
    runs_well_anew = λ i. absurd (rests.uninterrupted i);
    handles_evidence = λ ready. absurd (unready ready);
  },
  λ bad. absurd (no_bad bad),
)
  where
    state_was : old.ports.state port ≡ state_of (probe_result_of s.probe_results port.0)
    state_was = ap (λ (ports : Ports). ports.state port) ports_are

    unready : old.ports.state port ≢ ReadyState
    unready ready = not (ready_takes AService (probe_result_of s.probe_results port.0) (sym state_was ∙ ready))

    no_bad : IsForeignOrUnfit old.ports port → ⊥
    no_bad bad = not (bad_tends (probe_result_of s.probe_results port.0) (⊎_elim (λ foreign. inl (sym state_was ∙ foreign)) (λ unfit. inr (unfit.0, sym state_was ∙ unfit.1)) bad))
rested_ties (ATick hung) s old port accesses c evidence steps ports_are not rests = record {
  restarted = λ ready. absurd (not (sym (ap (λ (ports : Ports). ports.state port) ports_are) ∙ ready));
  rested = λ _. rests;
}

-- ---- and of all

module _ (plan : Plan) (laws : PrerequisiteLaws) (s : ServerState) (start : InvariantWithNoneDue s) (old : AbstractState) (reached : IsReachable old.machine) (at : MachineRelation s old.machine) (ports_are : old.ports ≡ ports_of s) where
  abbrev pub kept : InCallInvariant s
  kept = start.in_call_invariant

  abbrev pub began : JointState Device
  began = record { device = s.device; abstract = old }

  abbrev pub state_at : ℕ → PortState
  state_at q = state_of (probe_result_of s.probe_results q)

  -- ports that have turns, and those that had theirs
  abbrev pub Takes : Port → Type 0
  Takes q = TakesTurn plan (probe_result_of s.probe_results q.0)

  abbrev pub HadTurn : ℕ → Port → Type 0
  HadTurn n q = (q.0 < n) × Takes q

  -- What is so of a port that had its turn, or none, at the end of what was done so far.
  pub record IsDone (c : ServerState) (accesses : List Access) (steps : List Step) (evidence : Evidence) (q : Port) : Type 0 where
    pub becomes : MayBecomeInService old.ports evidence (ports_of c) q
    pub disk : SamePort old.ports (ports_of c) q ⊎ ShownDiskWasInOrCame old steps (abstract_state_of c (after old.machine steps)) q
    pub keeps : SameSerialAndSize old.ports (ports_of c) q ⊎ HasNoUnanswered (after old.machine steps) q
    pub evidenced : IsEvidencedOf (asks_for plan) (Replied []) accesses began (ports_of c) c.device evidence q
    pub ties : TiesSoFar plan s old q accesses c evidence steps

  -- a fault that is told of a port that had its turn
  pub record HasTold (n : ℕ) (c : ServerState) (accesses : List Access) (told : RequestFault) : Type 0 where
    pub its : IsFaultTold began c.device accesses told
    pub served : HadTurn n its.pending.request.port
    pub lives : is_queued its.serves.command.operation ≡ true → state_of (probe_result_of c.probe_results its.pending.request.port.0) ≢ Dead

  -- Ports below this number had their turns, which led to this server with these replies.
  pub record Progress (n : ℕ) (c : ServerState) (replies : List Reply) : Type 0 where
    pub invariant_with_none_due : InvariantWithNoneDue c
    pub wanted : c.wanted ≡ s.wanted
    pub adapter_is_on : IsOn c.device
    pub accesses : List Access
    pub turn_is_taken : DoesAll accesses s.device c.device
    pub serving : All (UsesPortsAndNotGhc (Uses plan old.ports)) accesses
    pub others : (q : Port) → (HadTurn n q → ⊥) → All (KeepsToAnotherPort q) accesses
    pub steps : List Step
    pub turns : AreTurns old n steps
    pub machine_relation : MachineRelation c (after old.machine steps)
    pub backed : TapeBacksSteps s.device c.device old.machine steps
    pub belong : AreStepsOfCall (asks_for plan) (ports_of c) steps
    pub evidence : Evidence
    pub names : NamesSome (HadTurn n) evidence
    pub lost : All (λ q. state_at q.0 ≡ ReadyState) evidence.lost
    pub lawful : AnswersLawfulAndWaitsOnStoppedPorts old evidence (ports_of c) steps
    pub owes : OwesBy plan evidence steps
    pub unplugs : UnpluggedOutcomeEmptiesPort steps (after old.machine steps)
    pub answers : List (Pending × Outcome)
    pub permuted : IsPermutation answers (answers_of steps)
    pub book_is_in_order : AllPairs IsLowerByPortThenId answers
    pub low : All (λ a. a.0.request.port.0 < n) answers
    pub told : replies ≡ map reply_of answers
    pub faults : (told : RequestFault) → Contains evidence.faults told → HasTold n c accesses told
    pub done : (q : Port) → q.0 < n → IsDone c accesses steps evidence q
    pub due : (q : Port) → state_of (probe_result_of c.probe_results q.0) ≡ ReadyState → IssuesDue (mode_in c q) steps (after old.machine steps) q
    pub of : All (IsByDeviceOrOnSuchPort (HadTurn n)) steps
    pub found : (q : Port) → (HadTurn n q → ⊥) → probe_result_of c.probe_results q.0 ≡ probe_result_of s.probe_results q.0
    pub remembered : (q : Port) → (HadTurn n q → ⊥) → remembered_at c.remembered q.0 ≡ remembered_at s.remembered q.0
    pub modes : (q : Port) → (HadTurn n q → ⊥) → mode_at c.modes q.0 ≡ mode_at s.modes q.0
    pub slots : (q : Port) → (HadTurn n q → ⊥) → slots_at c.slots q.0 ≡ slots_at s.slots q.0

  pub begun : Progress 0 s []
  begun = record {
    invariant_with_none_due = start;
    wanted = refl;
    adapter_is_on = kept.adapter_is_on;
    accesses = [];
    turn_is_taken = refl;
    serving = All-nil (UsesPortsAndNotGhc (Uses plan old.ports));
    others = λ q none. All-nil (KeepsToAnotherPort q);
    steps = [];
    turns = no_turns laws old reached;
    machine_relation = at;
    backed = laws.empty_steps_are_backed s.device old.machine;
    belong = tt;
    evidence = no_evidence;
    names = record {
      lost = All-nil (HadTurn 0);
      gone = All-nil (HadTurn 0);
      failed = All-nil (HadTurn 0);
      fatal = All-nil (HadTurn 0);
      stopped = All-nil (HadTurn 0);
      stuck = All-nil (HadTurn 0);
    };
    lost = All-nil (λ q. state_at q.0 ≡ ReadyState);
    lawful = tt;
    owes = owes_nothing plan;
    unplugs = record { none_is_left = λ e other here there. absurd (nowhere (Answer e Unplugged) here); none_is_told_dead = λ e other here there. absurd (nowhere (Answer e Unplugged) here) };
    answers = [];
    permuted = IsPermutation-refl [];
    book_is_in_order = λ i j d lt below. absurd (omega (arith, lt, below));
    low = All-nil (λ a. a.0.request.port.0 < 0);
    told = refl;
    faults = λ told here. absurd (nowhere told here);
    done = λ q lt. absurd (omega (arith, lt));
    due = λ q is_ready. none_issued s old.machine at [] (λ id. refl) (mode_in s q) q (start.none_is_due q);
    of = All-nil (IsByDeviceOrOnSuchPort (HadTurn 0));
    found = λ q none. refl;
    remembered = λ q none. refl;
    modes = λ q none. refl;
    slots = λ q none. refl;
  }

  -- the evidence doesn't name a port that had no turn
  pub unnamed : (n : ℕ) (q : Port) → (HadTurn n q → ⊥) → (evidence : Evidence) → NamesSome (HadTurn n) evidence → (Contains evidence.lost q → ⊥) × (Contains evidence.link_changed q → ⊥) × (Contains evidence.showing_error q → ⊥)
      × (Contains evidence.showing_fatal_error q → ⊥) × (Contains evidence.stopped q → ⊥) × (Contains evidence.stuck q → ⊥)
  unnamed n q none evidence names = (
    (λ here. none (All-contains (HadTurn n) evidence.lost q names.lost here)),
    (λ here. none (All-contains (HadTurn n) evidence.link_changed q names.gone here)),
    (λ here. none (All-contains (HadTurn n) evidence.showing_error q names.failed here)),
    (λ here. none (All-contains (HadTurn n) evidence.showing_fatal_error q names.fatal here)),
    (λ here. none (All-contains (HadTurn n) evidence.stopped q names.stopped here)),
    (λ here. none (All-contains (HadTurn n) evidence.stuck q names.stuck here)),
  )

  pub others_leave : (q : Port) (accesses : List Access) → All (KeepsToAnotherPort q) accesses → All (WritesNeitherCmdNorSctl q) accesses
  others_leave q accesses of = All-weaker (KeepsToAnotherPort q) (WritesNeitherCmdNorSctl q) (λ access x. (laws.one_port_spares_registers x.0 q Cmd x.1 access x.2, laws.one_port_spares_registers x.0 q Sctl x.1 access x.2)) accesses of

  -- nothing is asked of the evidence of a port that has no turn, and that it doesn't name
  none_evidenced : (accesses : List Access) (new : Device) (ports : Ports) (evidence : Evidence) (q : Port) → (Takes q → ⊥) → NamesSome Takes evidence → All (KeepsToAnotherPort q) accesses
      → IsEvidencedOf (asks_for plan) (Replied []) accesses began ports new evidence q
  none_evidenced accesses new ports evidence q not names of =
      let was_ready : old.ports.state q ≡ ReadyState → ⊥ = λ is. not (ready_takes plan (probe_result_of s.probe_results q.0) (sym (ap (λ (ports : Ports). ports.state q) ports_are) ∙ is)) in
      record {
        named_lost_showed_loss_or_changed = λ here. absurd (not (All-contains Takes evidence.lost q names.lost here));
        shown_loss_of_ready_is_named = λ is. absurd (was_ready is);
        named_link_changed_had_change_or_no_device = λ here. absurd (not (All-contains Takes evidence.link_changed q names.gone here));
        shown_failure_of_ready_is_named = λ is. absurd (was_ready is);
        named_showing_error_had_error = λ here. absurd (not (All-contains Takes evidence.showing_error q names.failed here));
        shown_fatal_of_ready_is_named = λ is. absurd (was_ready is);
        named_showing_fatal_had_fatal = λ here. absurd (not (All-contains Takes evidence.showing_fatal_error q names.fatal here));
        engine_is_left_or_stopped = inl (others_leave q accesses of);
        named_stopped_was_stopped_or_reset = λ here. absurd (not (All-contains Takes evidence.stopped q names.stopped here));
        stuck_only = λ here. absurd (not (All-contains Takes evidence.stuck q names.stuck here));
      }

  -- what is so of a port that has no turn
  pub idle_done : (n : ℕ) (c : ServerState) (replies : List Reply) → (p : Progress n c replies) → (q : Port) → (Takes q → ⊥) → IsDone c p.accesses p.steps p.evidence q
  idle_done n c replies p q not =
      let none : HadTurn n q → ⊥ = λ served. not served.1 in
      let un = unnamed n q none p.evidence p.names in
      let same : SamePort old.ports (ports_of c) q = subst (λ (ports : Ports). SamePort ports (ports_of c) q) (sym ports_are) (same_at s c q (p.found q none) (p.remembered q none) (p.modes q none)) in
      record {
        becomes = (
          λ dead. same,
          λ lives. (
            record {
              served_is_unchanged = same.0;
              dead_exactly_if_stuck = (λ dead. absurd (lives (sym same.1 ∙ dead)), λ named. absurd (un.5 named));
              disk_is_remembered_unless_ready = λ x. (same.2, same.3);
            },
            inl same,
          ),
        );
        disk = inl same;
        keeps = inl (same.2, same.3);
        evidenced = none_evidenced p.accesses c.device (ports_of c) p.evidence q not (names_more (HadTurn n) Takes (λ r served. served.1) p.evidence p.names) (p.others q none);
        ties = rested_ties plan s old q p.accesses c p.evidence p.steps ports_are not (record {
          others = p.others q none;
          same = same;
          uninterrupted = λ i. ⊎_elim un.4 un.5 i;
          again = λ e here own. not (subst Takes own (again_of (HadTurn n) p.steps p.of e here).1);
          answer = λ e o here own. not (subst Takes own (answered_of (HadTurn n) p.steps p.of e o here).1);
        });
      }

  -- a port is passed over that has no turn
  pub skipped : (n : ℕ) (c : ServerState) (replies : List Reply) → (TakesTurn plan (probe_result_of s.probe_results n) → ⊥) → Progress n c replies → Progress (n + 1) c replies
  skipped n c replies other p = record {
    invariant_with_none_due = p.invariant_with_none_due;
    wanted = p.wanted;
    adapter_is_on = p.adapter_is_on;
    accesses = p.accesses;
    turn_is_taken = p.turn_is_taken;
    serving = p.serving;
    others = λ q none. p.others q (λ served. let small = served.0 in none (omega (arith, small), served.1));
    steps = p.steps;
    turns = turns_more laws old reached n (n + 1) p.steps (omega arith) p.turns;
    machine_relation = p.machine_relation;
    backed = p.backed;
    belong = p.belong;
    evidence = p.evidence;
    names = names_more (HadTurn n) (HadTurn (n + 1)) (λ q served. let small = served.0 in (omega (arith, small), served.1)) p.evidence p.names;
    lawful = p.lawful;
    lost = p.lost;
    owes = p.owes;
    unplugs = p.unplugs;
    answers = p.answers;
    permuted = p.permuted;
    book_is_in_order = p.book_is_in_order;
    low = λ i d small. let lt = p.low i d small in omega (arith, lt);
    told = p.told;
    faults = λ told here. let t = p.faults told here in record { its = t.its; served = let small = t.served.0 in (omega (arith, small), t.served.1); lives = t.lives };
    done = λ q lt. ⊎_elim
        (λ (less : q.0 < n). p.done q less)
        (λ (most : n ≤ q.0).
        let same : n ≡ q.0 = omega (arith, lt, most) in
        idle_done n c replies p q (λ takes. other (subst (λ (k : ℕ). TakesTurn plan (probe_result_of s.probe_results k)) (sym same) takes)))
        (cases_lt q.0 n);
    due = p.due;
    of = all_of_ports (HadTurn n) (HadTurn (n + 1)) (λ q served. let small = served.0 in (omega (arith, small), served.1)) p.steps p.of;
    found = λ q none. p.found q (λ served. let small = served.0 in none (omega (arith, small), served.1));
    remembered = λ q none. p.remembered q (λ served. let small = served.0 in none (omega (arith, small), served.1));
    modes = λ q none. p.modes q (λ served. let small = served.0 in none (omega (arith, small), served.1));
    slots = λ q none. p.slots q (λ served. let small = served.0 in none (omega (arith, small), served.1));
  }

  -- who was answered is of a port that has a turn
  pub answered_was : (n : ℕ) (c : ServerState) (replies : List Reply) → (p : Progress n c replies) → (e : Pending) (o : Outcome) → Contains p.steps (Answer e o) → Takes e.request.port
  answered_was n c replies p e o here = (answered_of (HadTurn n) p.steps p.of e o here).1
