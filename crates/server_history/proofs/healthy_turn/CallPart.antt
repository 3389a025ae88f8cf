-- A turn in which a ready port is left as it was is a part of a service: what it makes of a machine.
use Rattle.std.proofs.Common.{ℕ, ◌≡◌, ◌≢◌, ◌<◌, ◌||◌, Bool, true, false, List, [], ◌∷◌, ◌++◌, map, Some, inl, inr, refl, sym, ap, ◌∙◌, subst, ⊎_elim, append_assoc, arith, suc}
use Rattle.std.specs.List.{All, AllPairs, AllZip, Contains, list_any}
use Rattle.std.specs.List.Sorted.{IsPermutation}
use Rattle.std.proofs.lemmas.Bool.{false≢true}
use Rattle.std.proofs.lemmas.List.Elements.{All-cons, All-contains, All-contains_itself, All-map, All-nil, Contains-append_cases, Contains-append_right, Contains-get_or}
use Rattle.std.proofs.lemmas.List.Kept.{AllPairs-cons}
use Rattle.std.proofs.lemmas.List.{append-nil}
use Rattle.std.proofs.lemmas.List.Sorted.{IsPermutation-append, IsPermutation-append_comm, IsPermutation-refl, IsPermutation-trans}
use Rattle.ata_types.specs.declared.Port.{Port}
use Rattle.ata_types.specs.declared.PortState.TheVariants.{Dead, Ready as ReadyState}
use Rattle.ata_types.specs.declared.request.Outcome.{Outcome}
use Rattle.ata_types.specs.declared.request.Outcome.TheVariants.{Ok, Unplugged}
use Rattle.ata_types.specs.declared.request.Reply.{Reply}
use Rattle.ata_types.specs.declared.request.RequestId.{RequestId}
use Rattle.adapter.specs.declared.access.DeviceStep.{DeviceStep}
use Rattle.adapter.specs.declared.command.Operation.TheVariants.{ReadLog}
use Rattle.refinement.specs.Fragments.{GainsNoMove}
use Rattle.refinement.specs.Driver.{TapeBacksSteps}
use Rattle.block_machine.specs.Events.{AllByDevice, AnswersLawfulAndWaitsOnStoppedPorts, AllEnabled, AreStepsOfCall, IsByDevice, IsLawfulAnswer, IssueIsLastOfRequest, IsLowerByPortThenId, AbstractState, Replied, Service, RepliesMatch, answers_of, issues_id}
use Rattle.block_machine.specs.Histories.{IsReachable}
use Rattle.block_machine.specs.Expected.{after}
use Rattle.block_machine.specs.Ports.{Evidence, MayBecomeInService, Ports, SamePort}
use Rattle.block_machine.specs.State.{Machine, Pending}
use Rattle.block_machine.specs.Steps.{Step, WaitAgain, Answer, Issue}
use Rattle.block_machine.specs.declared.due.QueueMode.{QueueMode}
use Rattle.driver_history.specs.EvidenceHandling.{OnlyPortsShowingErrorRequeueAbortRevokeFault}
use Rattle.driver_history.specs.Evidence.{IsEvidencedOf}
use Rattle.driver_history.specs.Histories.{IssuesDue}
use Rattle.host_boot.specs.TakeOver.{probe_result_of}
use Rattle.port_control.specs.declared.events.PortEvent.TheVariants.{NoEvent}
use Rattle.request_queue.specs.BookEntries.{BookEntry, IsEarlier}
use Rattle.slots.specs.declared.SlotUse.{SlotUse}
use Rattle.server_history.specs.Prerequisites.{PrerequisiteLaws}
use Rattle.server_history.specs.IssuingAndAnswering.{StepsAnswer, TurnAnswers, HasEnded, PollsInTurnWithoutEvent, IsAnsweredIn, AllByDeviceOrIssue, SameButDeviceLoansSlotsBook, ok_answers_newest_first}
use Rattle.server_history.specs.ServerState.{ServerState, MachineRelation, InvariantWithNoneDue, mode_in, ports_of, remembered_at, slots_at, state_of, used_for}
use Rattle.server_history.specs.Turns.{ServingReady, ServicesPort, IsTurnOrDeviceStep, LeavesOtherPortsGrantsAndLastId, SimulatesTurn, PortListsNameOnly, joint_state_of, abstract_state_of}
use Rattle.server_history.proofs.state.AnswerSteps.{answered_in, ended_stood, issuing_answers, may_parts, no_answer, no_answer_issuing, told_so, with_ok}
use Rattle.server_history.proofs.state.TurnAccesses.{TurnList, turn_list}
use Rattle.server_history.proofs.healthy_turn.AnswersAndIssues.{turn_apart, turn_settings, turn_slots}
use Rattle.server_history.proofs.state.PortSlots.{ready_found}
use Rattle.server_history.proofs.healthy_turn.TurnAsCall.{finds, never_lost, ties, unfailing}
use Rattle.server_history.proofs.state.PairedLists.{at_right}
use Rattle.server_history.proofs.state.CallEvidence.{no_evidence}
use Rattle.server_history.proofs.state.FirstMembers.{nowhere}

-- What such a turn adds to a machine that stands for the server.
pub record AddsTurn (port : Port) (replies : List Reply) (old new : ServerState) (m : Machine) : Type 0 where
  pub steps : List Step
  pub may : AllEnabled m steps
  pub stands : MachineRelation new (after m steps)
  pub backed : TapeBacksSteps old.device new.device m steps
  pub answers : StepsAnswer (mode_in old port) port replies steps
  pub last : IssueIsLastOfRequest steps
  pub issues : IssuesDue (mode_in old port) steps (after m steps) port

-- ---- its steps

-- the device's steps
pub devices_all : (P : List Step → Type 0) → ((step : Step) (base : List Step) → IsByDevice step → P base → P (step ∷ base)) → P [] → (steps : List Step) → AllByDevice steps → P steps
devices_all P device none [] only = none
devices_all P device none (step ∷ steps) only = device step steps only.1 (devices_all P device none steps only.0)

-- then the answers
pub answers_all : (P : List Step → Type 0) (ended : List Pending) (early : List Step) → ((e : Pending) (base : List Step) → Contains ended e → P base → P (Answer e Ok ∷ base)) → P early → P (ok_answers_newest_first ended ++ early)
answers_all P [] early answer start = start
answers_all P (e ∷ ended) early answer start =
    subst P (sym (append_assoc (ok_answers_newest_first ended) (Answer e Ok ∷ []) early))
    (answers_all P ended (Answer e Ok ∷ early) (λ x base here. answer x base (Contains-append_right (e ∷ []) ended x here)) (answer e early (Contains-get_or (e ∷ ended) 0 e (omega arith)) start))

-- then those that issue
pub issues_all : (P : List Step → Type 0) (mode : QueueMode) (port : Port) → ((step : Step) (base : List Step) → IsByDevice step → P base → P (step ∷ base))
    → ((e : Pending) (base : List Step) → e.request.port ≡ port → P base → P (Issue mode e ∷ base)) → (late early : List Step) → AllByDeviceOrIssue mode port late → P early → P (late ++ early)
issues_all P mode port device issue [] early only start = start
issues_all P mode port device issue (Issue its e ∷ late) early only start =
    subst (λ (m : QueueMode). P (Issue m e ∷ (late ++ early))) (sym only.0) (issue e (late ++ early) only.1 (issues_all P mode port device issue late early only.2 start))
issues_all P mode port device issue (step ∷ late) early only start = device step (late ++ early) only.0 (issues_all P mode port device issue late early only.1 start)

-- what holds of such steps
of_turn : (P : List Step → Type 0) (mode : QueueMode) (port : Port) (replies : List Reply) (steps : List Step) (b : StepsAnswer mode port replies steps) → P []
    → ((step : Step) (base : List Step) → IsByDevice step → P base → P (step ∷ base)) → ((e : Pending) (base : List Step) → Contains b.ended e → P base → P (Answer e Ok ∷ base))
    → ((e : Pending) (base : List Step) → e.request.port ≡ port → P base → P (Issue mode e ∷ base)) → P steps
of_turn P mode port replies steps b none device answer issue =
    subst P (sym b.steps_are) (issues_all P mode port device issue b.later (ok_answers_newest_first b.ended ++ b.before) b.others_come_last (answers_all P b.ended b.before answer (devices_all P device none b.before b.device_steps_come_first)))

pub device_own : (port : Port) (step : Step) → IsByDevice step → IsTurnOrDeviceStep port step
device_own port (Issue mode e) is = absurd is
device_own port (WaitAgain e) is = absurd is
device_own port (Answer e o) is = absurd is
device_own port step is = is

device_lawful : (old : AbstractState) (evidence : Evidence) (ports : Ports) (step : Step) (base : List Step) → IsByDevice step → AnswersLawfulAndWaitsOnStoppedPorts old evidence ports base → AnswersLawfulAndWaitsOnStoppedPorts old evidence ports (step ∷ base)
device_lawful old evidence ports (WaitAgain e) base is l = absurd is
device_lawful old evidence ports (Answer e o) base is l = absurd is
device_lawful old evidence ports step base is l = l

pub device_grounded : (evidence : Evidence) (step : Step) (base : List Step) → IsByDevice step → OnlyPortsShowingErrorRequeueAbortRevokeFault evidence base → OnlyPortsShowingErrorRequeueAbortRevokeFault evidence (step ∷ base)
device_grounded evidence (WaitAgain e) base is g = absurd is
device_grounded evidence (Answer e o) base is g = absurd is
device_grounded evidence step base is g = g

-- steps that issue nothing
pub none_last : (steps : List Step) → ((id : RequestId) → list_any (issues_id id) steps ≡ false) → IssueIsLastOfRequest steps
none_last [] none = tt
none_last (step ∷ steps) none = (none_last steps rest, λ id h i. false≢true (sym (rest id) ∙ i))
  where
    right : (a b : Bool) → (a || b) ≡ false → b ≡ false
    right true b is = absurd (false≢true (sym is))
    right false b is = is

    rest : (id : RequestId) → list_any (issues_id id) steps ≡ false
    rest id = right (issues_id id step) (list_any (issues_id id) steps) (none id)

-- ---- what it tells

pub devices_answers : (steps : List Step) → AllByDevice steps → answers_of steps ≡ []
devices_answers [] only = refl
devices_answers (Answer e o ∷ steps) only = absurd only.1
devices_answers (step ∷ steps) only = devices_answers steps only.0

pub answered_permuted : (ended : List Pending) (early : List Step) → IsPermutation (map with_ok ended ++ answers_of early) (answers_of (ok_answers_newest_first ended ++ early))
answered_permuted [] early = IsPermutation-refl (answers_of early)
answered_permuted (e ∷ ended) early =
    subst (λ (steps : List Step). IsPermutation (with_ok e ∷ (map with_ok ended ++ answers_of early)) (answers_of steps)) (sym (append_assoc (ok_answers_newest_first ended) (Answer e Ok ∷ []) early))
    (IsPermutation-trans _ _ _ moved (answered_permuted ended (Answer e Ok ∷ early)))
  where
    moved : IsPermutation (with_ok e ∷ (map with_ok ended ++ answers_of early)) (map with_ok ended ++ with_ok e ∷ answers_of early)
    moved = subst (IsPermutation (with_ok e ∷ (map with_ok ended ++ answers_of early))) (append_assoc (map with_ok ended) (with_ok e ∷ []) (answers_of early))
        (IsPermutation-append _ _ _ _ (IsPermutation-append_comm (with_ok e ∷ []) (map with_ok ended)) (IsPermutation-refl (answers_of early)))

rest_ordered : {X : Type 0} (R : X → X → Type 0) (x : X) (xs : List X) → AllPairs R (x ∷ xs) → AllPairs R xs
rest_ordered R x xs order i j d lt below = order (suc i) (suc j) d (omega (arith, lt)) (omega (arith, below))

first_ordered : {X : Type 0} (R : X → X → Type 0) (x : X) (xs : List X) → AllPairs R (x ∷ xs) → All (R x) xs
first_ordered R x xs order i d small = order 0 (suc i) d (omega arith) (omega (arith, small))

pub told_ordered : (port : Port) (requests : List BookEntry) (ended : List Pending) → AllZip (HasEnded port) requests ended → AllPairs IsEarlier requests → AllPairs IsLowerByPortThenId (map with_ok ended)
told_ordered port requests [] each order = λ i j d lt below. absurd (omega (arith, lt, below))
told_ordered port [] (p ∷ ended) each order = absurd each
told_ordered port (e ∷ requests) (p ∷ ended) each order =
    AllPairs-cons IsLowerByPortThenId (with_ok p) (map with_ok ended) (All-map (IsLowerByPortThenId (with_ok p)) with_ok ended first) (told_ordered port requests ended each.1 (rest_ordered IsEarlier e requests order))
  where
    first : All (λ q. IsLowerByPortThenId (with_ok p) (with_ok q)) ended
    first k d small =
        let x = at_right (HasEnded port) requests ended each.1 _ (All-contains_itself ended k d small) in
        let lt : e.request.id.0 < x.0.request.id.0 = All-contains (IsEarlier e) requests x.0 (first_ordered IsEarlier e requests order) x.1 in
        let a = ap (λ (i : RequestId). i.0) each.0.entry.id in
        let b = ap (λ (i : RequestId). i.0) x.2.entry.id in
        inr (each.0.entry.port ∙ each.0.port_is ∙ sym (x.2.entry.port ∙ x.2.port_is), omega (arith, lt, a, b))

-- ---- the whole

module _ (laws : PrerequisiteLaws) (port : Port) (replies : List Reply) (old new : ServerState) (t : InvariantWithNoneDue old) (ready : state_of (probe_result_of old.probe_results port.0) ≡ ReadyState)
    (turn : PollsInTurnWithoutEvent port (slots_at old.slots port.0) replies old.device new.device) (told : TurnAnswers port replies old new turn) where
  low : port.0 < 4
  low = (ready_found old port.0 t.in_call_invariant ready).0

  same : SameButDeviceLoansSlotsBook old new
  same = turn_settings laws port replies old new turn told

  ports_same : ports_of new ≡ ports_of old
  ports_same = ap (λ (n : ServerState). ports_of n) same

  list : TurnList port (slots_at old.slots port.0) replies old.device new.device turn
  list = turn_list port laws low (slots_at old.slots port.0) replies old.device new.device turn

  -- no trouble is named
  abbrev its : Evidence
  its = no_evidence

  others : LeavesOtherPortsGrantsAndLastId port old new
  others = record {
    grants = ap (λ (n : ServerState). n.grants) same;
    wanted = ap (λ (n : ServerState). n.wanted) same;
    last_id = ap (λ (n : ServerState). n.last_id) same;
    other_probe_results_are_same = λ q ne. ap (λ (n : ServerState). probe_result_of n.probe_results q) same;
    other_remembered_are_same = λ q ne. ap (λ (n : ServerState). remembered_at n.remembered q) same;
    other_modes_are_same = λ q ne. ap (λ (n : ServerState). mode_in n (record { 0 = q })) same;
    other_slots_are_same = λ q ne. turn_slots laws port replies old new turn told q ne;
    others_requests_are_same = λ q ne. turn_apart laws port replies old new turn t.in_call_invariant.book_is_well_formed told q ne;
  }

  port_same : SamePort (ports_of old) (ports_of new) port
  port_same = subst (λ (ports : Ports). SamePort (ports_of old) ports port) (sym ports_same) (refl, refl, refl, refl, refl, refl)

  mode_same : mode_in new port ≡ mode_in old port
  mode_same = ap (λ (n : ServerState). mode_in n port) same

  names : PortListsNameOnly port its
  names = record {
    lost = All-nil (λ q. q ≡ port);
    link_changed = All-nil (λ q. q ≡ port);
    showing_error = All-nil (λ q. q ≡ port);
    showing_fatal_error = All-nil (λ q. q ≡ port);
    stopped = All-nil (λ q. q ≡ port);
    stuck = All-nil (λ q. q ≡ port);
  }

  module _ (m : Machine) (reached : IsReachable m) (is : MachineRelation old m) (x : AddsTurn port replies old new m)
      (answered : turn.look ≡ NoEvent → (slot : ℕ) (used : SlotUse) → slot < 32 → used_for old.slots port.0 slot ≡ Some used
      → (old.device.port port.0).ci slot ≡ false → (old.device.port port.0).sact slot ≡ false → IsAnsweredIn used.id replies) where
    abbrev mode : QueueMode
    mode = mode_in old port

    abbrev b : StepsAnswer mode port replies x.steps
    b = x.answers

    abbrev began : AbstractState
    began = abstract_state_of old m

    -- what holds of its steps
    all_steps : (P : List Step → Type 0) → P [] → ((step : Step) (base : List Step) → IsByDevice step → P base → P (step ∷ base)) → ((e : Pending) (base : List Step) → Contains b.ended e → P base → P (Answer e Ok ∷ base))
        → ((e : Pending) (base : List Step) → e.request.port ≡ port → P base → P (Issue mode e ∷ base)) → P x.steps
    all_steps P none device answer issue = of_turn P mode port replies x.steps b none device answer issue

    ended_by : (e : Pending) → Contains b.ended e → (request : BookEntry) × Contains b.requests request × HasEnded port request e
    ended_by e here = at_right (HasEnded port) b.requests b.ended b.each_has_ended e here

    ended_port : (e : Pending) → Contains b.ended e → e.request.port ≡ port
    ended_port e here = let y = ended_by e here in y.2.entry.port ∙ y.2.port_is

    own : All (IsTurnOrDeviceStep port) x.steps
    own = all_steps (All (IsTurnOrDeviceStep port)) (All-nil (IsTurnOrDeviceStep port))
        (λ step base device rest. All-cons (IsTurnOrDeviceStep port) step base (device_own port step device) rest)
        (λ e base here rest. All-cons (IsTurnOrDeviceStep port) (Answer e Ok) base (ended_port e here) rest)
        (λ e base its_port rest. All-cons (IsTurnOrDeviceStep port) (Issue mode e) base its_port rest)

    belong : AreStepsOfCall {D = DeviceStep} Service (ports_of new) x.steps
    belong = all_steps (AreStepsOfCall {D = DeviceStep} Service (ports_of new)) tt
        (λ step base device rest. (rest, inl device))
        (λ e base here rest. (rest, inr tt))
        (λ e base its_port rest. (rest, inr (ap (ports_of new).state its_port ∙ port_same.1 ∙ ready, ap (ports_of new).mode its_port ∙ mode_same)))

    early_may : AllEnabled m b.before × AllEnabled (after m b.before) (ok_answers_newest_first b.ended)
    early_may = may_parts laws m (ok_answers_newest_first b.ended) b.before (may_parts laws m b.later (ok_answers_newest_first b.ended ++ b.before) (subst (AllEnabled m) b.steps_are x.may)).0

    -- who is answered was issued when the turn began, and has ended
    ok_lawful : (e : Pending) → Contains b.ended e → IsLawfulAnswer began its (ports_of new) e Ok
    ok_lawful e here =
        let y = ended_by e here in
        let l = laws.steps_and_accesses.entry_is_found_in_earlier_book m.book (after m b.before).book e (laws.steps_and_accesses.device_steps_spare_book m b.before b.device_steps_come_first).book (ended_stood laws (after m b.before) b.ended early_may.1 e here) in
        (record { pending = l.0; is_in_book = l.1; id_is = ap (λ r. r.id) (sym l.2.request); issued = sym l.2.issued ∙ y.2.issued }, y.2.issued, y.2.touched, y.2.ended)

    lawful : AnswersLawfulAndWaitsOnStoppedPorts began its (ports_of new) x.steps
    lawful = all_steps (AnswersLawfulAndWaitsOnStoppedPorts began its (ports_of new)) tt (device_lawful began its (ports_of new)) (λ e base here rest. (rest, ok_lawful e here)) (λ e base its_port rest. rest)

    grounded : OnlyPortsShowingErrorRequeueAbortRevokeFault its x.steps
    grounded = all_steps (OnlyPortsShowingErrorRequeueAbortRevokeFault its) tt (device_grounded its) (λ e base here rest. rest) (λ e base its_port rest. rest)

    -- each answer is one of these
    only_ok : (e : Pending) (o : Outcome) → Contains x.steps (Answer e o) → Contains b.ended e × (o ≡ Ok)
    only_ok e o here = ⊎_elim
        (λ later. absurd (no_answer_issuing mode port b.later b.others_come_last e o later))
        (λ rest. ⊎_elim (answered_in b.ended e o) (λ early. absurd (no_answer b.before b.device_steps_come_first e o early)) (Contains-append_cases (ok_answers_newest_first b.ended) b.before (Answer e o) rest))
        (Contains-append_cases b.later (ok_answers_newest_first b.ended ++ b.before) (Answer e o) (subst (λ (steps : List Step). Contains steps (Answer e o)) b.steps_are here))

    never_unplugged : (e : Pending) → Contains x.steps (Answer e Unplugged) → ⊥
    never_unplugged e here = let z : Unplugged ≡ Ok = (only_ok e Unplugged here).1 in absurd cc

    answers_are : answers_of x.steps ≡ answers_of (ok_answers_newest_first b.ended ++ b.before)
    answers_are = ap answers_of b.steps_are ∙ issuing_answers mode port b.later (ok_answers_newest_first b.ended ++ b.before) b.others_come_last

    tells : RepliesMatch x.steps replies
    tells = record {
      answers = map with_ok b.ended;
      is_permutation = subst (IsPermutation (map with_ok b.ended)) (sym answers_are)
          (subst (λ (list : List (Pending × Outcome)). IsPermutation list (answers_of (ok_answers_newest_first b.ended ++ b.before))) (ap (λ (none : List (Pending × Outcome)). map with_ok b.ended ++ none) (devices_answers b.before b.device_steps_come_first) ∙ append-nil (map with_ok b.ended))
          (answered_permuted b.ended b.before));
      ordered = told_ordered port b.requests b.ended b.each_has_ended b.ordered;
      replies_are_of_answers = b.replies_are ∙ told_so port b.requests b.ended b.each_has_ended;
    }

    becomes : MayBecomeInService (ports_of old) its (ports_of new) port
    becomes = (
      λ dead. port_same,
      λ lives. (
        record {
          served_is_unchanged = port_same.0;
          dead_exactly_if_stuck = (λ dead. absurd (lives (sym port_same.1 ∙ dead)), λ stuck. absurd (nowhere port stuck));
          disk_is_remembered_unless_ready = λ _. (port_same.2, port_same.3);
        },
        inl port_same,
      ),
    )

    -- no trouble was shown
    evidenced : IsEvidencedOf Service (Replied replies) list.driven.accesses (joint_state_of old m) (ports_of new) new.device its port
    evidenced = record {
      named_lost_showed_loss_or_changed = λ here. absurd (nowhere port here);
      shown_loss_of_ready_is_named = λ _ loss. absurd (never_lost laws port replies old new t ready turn list port_same m reached is x.steps x.may b answered loss);
      named_link_changed_had_change_or_no_device = λ here. absurd (nowhere port here);
      shown_failure_of_ready_is_named = λ _ failure. absurd (unfailing laws port replies old new t ready turn list port_same m reached is x.steps x.may b answered failure);
      named_showing_error_had_error = λ here. absurd (nowhere port here);
      shown_fatal_of_ready_is_named = λ _ fatal. absurd (unfailing laws port replies old new t ready turn list port_same m reached is x.steps x.may b answered (inl fatal));
      named_showing_fatal_had_fatal = λ here. absurd (nowhere port here);
      engine_is_left_or_stopped = inl list.leaves;
      named_stopped_was_stopped_or_reset = λ here. absurd (nowhere port here);
      stuck_only = λ here. absurd (nowhere port here);
    }

    makes : SimulatesTurn ServingReady port replies list.driven.accesses old new m
    makes = record {
      steps = x.steps;
      evidence = its;
      steps_are_enabled = x.may;
      machine_relation = x.stands;
      is_backed = x.backed;
      steps_are_of_turn = own;
      steps_are_of_call = belong;
      issues_are_last = x.last;
      names_only_port = names;
      answers_are_lawful = lawful;
      requeues_and_aborts_fit_turn = grounded;
      replies_match = tells;
      unplugged_outcome_empties_port = record { none_is_left = λ e other here. absurd (never_unplugged e here); none_is_told_dead = λ e other here. absurd (never_unplugged e here) };
      port_is_serviced = becomes;
      shown_disk_was_in_or_came = inl port_same;
      same_disk_or_none_unanswered = inl (port_same.2, port_same.3);
      issues_due = λ _. subst (λ (kind : QueueMode). IssuesDue kind x.steps (after m x.steps) port) (sym mode_same) x.issues;
      is_evidenced = evidenced;
      faults_are_told = λ told here. absurd (nowhere told here);
      turn_corresponds = ties laws port replies old new t ready turn list port_same m reached is x.steps x.may b answered x.backed;
      finds_done = λ _. finds laws port replies old new t ready turn list port_same m reached is x.steps x.may b answered;
    }

  module _ (adds : (m : Machine) → IsReachable m → MachineRelation old m → AddsTurn port replies old new m)
      (answered : turn.look ≡ NoEvent → (slot : ℕ) (used : SlotUse) → slot < 32 → used_for old.slots port.0 slot ≡ Some used
      → (old.device.port port.0).ci slot ≡ false → (old.device.port port.0).sact slot ≡ false → IsAnsweredIn used.id replies)
      (silent : (q : ℕ) → state_of (probe_result_of old.probe_results q) ≢ Dead → GainsNoMove q ReadLog old.device new.device) where
    pub serves : ServicesPort port replies old new
    serves = record {
      does_turn = inl (turn, told);
      is_port_turn = record {
        accesses = list.driven.accesses;
        accesses_are_done = list.driven.all_are_done;
        accesses_are_of_port = list.of;
        accesses_are_drivers_own = list.own;
        leaves_others = others;
        others_get_no_log_unless_dead = λ q other lives. silent q lives;
        simulates_turn = λ m reached is. makes m reached is (adds m reached is) answered;
      };
    }
