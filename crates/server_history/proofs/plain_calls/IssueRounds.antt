-- Due requests of a port are issued together, and what is due then.
use Rattle.std.proofs.Common.{ℕ, ◌≡◌, ◌≢◌, ◌⊎◌, ◌==◌, ◌||◌, Bool, true, false, not, List, [], ◌∷◌, ◌++◌, map, None, inl, inr, refl, sym, ap, ◌∙◌, subst, ⊎_elim, eqb-true, eq-eqb}
use Rattle.std.specs.Prelude.{◌↔◌, if◌then◌else◌}
use Rattle.std.specs.List.{Contains, list_any}
use Rattle.std.proofs.lemmas.Bool.{cases_Bool, cases_eq, cond-true, cond-false, false≢true, or_cases, or_left, or_right, and_parts}
use Rattle.std.proofs.lemmas.List.{get_or-set_other}
use Rattle.ata_types.specs.declared.Port.{Port}
use Rattle.ata_types.specs.declared.request.RequestId.{RequestId}
use Rattle.ata_types.specs.declared.PortState.TheVariants.{Dead}
use Rattle.adapter.specs.declared.command.Operation.{Operation}
use Rattle.refinement.specs.Fragments.{IsDrivenBy, GainsNoMove}
use Rattle.refinement.specs.Slots.{client_operation_of}
use Rattle.refinement.specs.Driver.{TapeBacksSteps}
use Rattle.server_history.proofs.state.DrivenAccesses.{by_none}
use Rattle.block_machine.specs.DueRequests.{AreDueInTurnAndLeaveNoneDue, IsDue, NoneDue, due_of, mark_issued, requests_of_port, with_issued}
use Rattle.block_machine.specs.Events.{AbstractCall, AbstractState, AllByDevice, AnswersLawfulAndWaitsOnStoppedPorts, AllEnabled, AreStepsOfCall, IsIssuedIn, IsByServer, IssueIsLastOfRequest, accepts_of, issues_requeues_or_answers_id, issues_id}
use Rattle.block_machine.specs.Histories.{IsReachable}
use Rattle.block_machine.specs.Expected.{after}
use Rattle.block_machine.specs.Ports.{Ports, Evidence}
use Rattle.block_machine.specs.State.{Machine, Pending, unanswered}
use Rattle.block_machine.specs.Steps.{Step, Accept, WaitAgain, Answer, Issue}
use Rattle.block_machine.specs.declared.due.QueueMode.{QueueMode}
use Rattle.block_machine.specs.declared.due.Unanswered.{Unanswered}
use Rattle.server_history.proofs.state.ListMembers.{contains_cases, contains_here, contains_there, into_map, map_in}
use Rattle.driver_history.specs.Histories.{IssuesDue, with_issue_undone}
use Rattle.ncq.specs.Batches.{IsCommandIssueAccess, PlacedTask, issues_newest_first}
use Rattle.request_queue.specs.BookEntries.{BookEntry, BookIsWellFormed, IsWaiting, as_unanswered, unanswered_of, due_ids}
use Rattle.server_history.specs.Prerequisites.{PrerequisiteLaws}
use Rattle.server_history.specs.IssuingAndAnswering.{AllByDeviceOrIssue, IssuesDueOfPort, IssuesTogetherIfAny, PutsInSlot, PutsInSlots}
use Rattle.server_history.specs.ServerState.{ServerState, InCallInvariant, MachineRelation, InvariantWithNoneDue, mode_at, mode_in, no_slots, slots_at}
use Rattle.server_history.proofs.state.DueRequests.{same_book}
use Rattle.server_history.proofs.state.DeviceSteps.{devices_last, not_handled}
use Rattle.server_history.proofs.plain_calls.IssuedTogether.{AreIssuedTogether, HaveIds, issued_together, together_kept, together_silent}
use Rattle.server_history.proofs.plain_calls.RequestsInSlots.{BookAndSlotsInvariant, book_and_slots, never_again, put_keeps, puts_settings}
use Rattle.server_history.proofs.state.SilentOperations.{silent_none}
use Rattle.host_boot.specs.TakeOver.{probe_result_of}
use Rattle.host_boot.specs.declared.ProbeResult.TheVariants.{Unready}
use Rattle.server_history.proofs.state.FirstMembers.{nowhere, first_here}

pub not_true : (b : Bool) → not b ≡ true → b ≡ false
not_true false is = refl
not_true true is = absurd (false≢true is)

-- ---- steps

-- the device's steps issue nothing
pub devices_issue_none : (id : RequestId) (steps : List Step) → AllByDevice steps → list_any (issues_id id) steps ≡ false
devices_issue_none id [] all = refl
devices_issue_none id (Issue its e ∷ steps) all = absurd all.1
devices_issue_none id (step ∷ steps) all = devices_issue_none id steps all.0

pub any_append : {X : Type 0} (p : X → Bool) (xs ys : List X) → list_any p (xs ++ ys) ≡ (list_any p xs || list_any p ys)
any_append p [] ys = refl
any_append p (x ∷ xs) ys = ap (λ (b : Bool). p x || b) (any_append p xs ys) ∙ reassoc (p x) (list_any p xs) (list_any p ys)
  where
    reassoc : (a b c : Bool) → (a || (b || c)) ≡ ((a || b) || c)
    reassoc true b c = refl
    reassoc false b c = refl

pub or_none : (b : Bool) → (b || false) ≡ b
or_none true = refl
or_none false = refl

pub issued_parts : (id : RequestId) (late early : List Step) → IsIssuedIn id (late ++ early) → IsIssuedIn id late ⊎ IsIssuedIn id early
issued_parts id late early i = or_cases _ _ (sym (any_append (issues_id id) late early) ∙ i)

pub issued_late : (id : RequestId) (late early : List Step) → IsIssuedIn id late → IsIssuedIn id (late ++ early)
issued_late id late early i = any_append (issues_id id) late early ∙ or_left _ _ i

pub issued_early : (id : RequestId) (late early : List Step) → IsIssuedIn id early → IsIssuedIn id (late ++ early)
issued_early id late early i = any_append (issues_id id) late early ∙ or_right _ _ i

devices_only : (mode : QueueMode) (port : Port) (steps : List Step) → AllByDevice steps → AllByDeviceOrIssue mode port steps
devices_only mode port [] all = tt
devices_only mode port (Issue its e ∷ steps) all = absurd all.1
devices_only mode port (step ∷ steps) all = (all.1, devices_only mode port steps all.0)

pub only_append : (mode : QueueMode) (port : Port) (late early : List Step) → AllByDeviceOrIssue mode port late → AllByDeviceOrIssue mode port early → AllByDeviceOrIssue mode port (late ++ early)
only_append mode port [] early a b = b
only_append mode port (Issue its e ∷ late) early a b = (a.0, a.1, only_append mode port late early a.2 b)
only_append mode port (step ∷ late) early a b = (a.0, only_append mode port late early a.1 b)

-- what such steps are to a call: each is the device's, or issues a request of the port
module _ (mode : QueueMode) (port : Port) where
  pub belong_on : {D : Type 0} (ask : AbstractCall D) (ports : Ports) → ((e : Pending) → e.request.port ≡ port → IsByServer ask ports (Issue mode e)) → (late early : List Step) → AllByDeviceOrIssue mode port late → AreStepsOfCall ask ports early
      → AreStepsOfCall ask ports (late ++ early)
  belong_on ask ports own [] early only b = b
  belong_on ask ports own (Issue its e ∷ late) early only b =
      (belong_on ask ports own late early only.2 b, inr (subst (λ (x : QueueMode). IsByServer ask ports (Issue x e)) (sym only.0) (own e only.1)))
  belong_on ask ports own (step ∷ late) early only b = (belong_on ask ports own late early only.1 b, inl only.0)

  pub last_on : (late early : List Step) → AllByDeviceOrIssue mode port late → IssueIsLastOfRequest late → IssueIsLastOfRequest early → ((id : RequestId) → IsIssuedIn id late → IsIssuedIn id early → ⊥) → IssueIsLastOfRequest (late ++ early)
  last_on [] early only l e apart = e
  last_on (step ∷ late) early only l e apart = (
    last_on late early (rest step only) l.0 e (λ id i. apart id (or_right _ _ i)),
    λ id h i. ⊎_elim (λ (before : IsIssuedIn id late). l.1 id h before) (λ (there : IsIssuedIn id early). apart id (or_left _ _ (issues step only id h)) there) (issued_parts id late early i),
  )
    where
      rest : (step : Step) → AllByDeviceOrIssue mode port (step ∷ late) → AllByDeviceOrIssue mode port late
      rest (Issue its e) only = only.2
      rest step only = only.1

      issues : (step : Step) → AllByDeviceOrIssue mode port (step ∷ late) → (id : RequestId) → issues_requeues_or_answers_id id step ≡ true → issues_id id step ≡ true
      issues (Issue its e) only id h = h
      issues step only id h = absurd (not_handled id step only.0 h)

  pub lawful_on : (old : AbstractState) (evidence : Evidence) (ports : Ports) (late early : List Step) → AllByDeviceOrIssue mode port late → AnswersLawfulAndWaitsOnStoppedPorts old evidence ports early → AnswersLawfulAndWaitsOnStoppedPorts old evidence ports (late ++ early)
  lawful_on old evidence ports [] early only l = l
  lawful_on old evidence ports (Issue its e ∷ late) early only l = lawful_on old evidence ports late early only.2 l
  lawful_on old evidence ports (WaitAgain e ∷ late) early only l = absurd only.0
  lawful_on old evidence ports (Answer e o ∷ late) early only l = absurd only.0
  lawful_on old evidence ports (step ∷ late) early only l = lawful_on old evidence ports late early only.1 l

  pub accepts_on : (late early : List Step) → AllByDeviceOrIssue mode port late → accepts_of (late ++ early) ≡ accepts_of early
  accepts_on [] early only = refl
  accepts_on (Issue its e ∷ late) early only = accepts_on late early only.2
  accepts_on (Accept r ∷ late) early only = absurd only.0
  accepts_on (step ∷ late) early only = accepts_on late early only.1

-- ---- together

-- These requests are issued by such steps from the machine, after which it stands for the new server.
pub record AreIssued (port : Port) (ids : List RequestId) (old new : ServerState) (m : Machine) : Type 0 where
  pub steps : List Step
  pub may : AllEnabled m steps
  pub backed : TapeBacksSteps old.device new.device m steps
  pub stands : MachineRelation new (after m steps)
  pub only : AllByDeviceOrIssue (mode_in old port) port steps
  pub named : (id : RequestId) → IsIssuedIn id steps → Contains ids id
  pub all : (id : RequestId) → Contains ids id → IsIssuedIn id steps
  pub last : IssueIsLastOfRequest steps

same_id : (a b : RequestId) → a.0 ≡ b.0 → a ≡ b
same_id a b same = ap (λ (n : ℕ). record { 0 = n }) same

-- The requests were put in slots, one after another, and the device went on.
pub record ArePutInSlots (port : Port) (ids : List RequestId) (old new : ServerState) : Type 0 where
  pub tasks : List PlacedTask
  pub taken : ServerState
  pub puts : PutsInSlots port ids tasks old taken
  pub server : new ≡ record taken { device = new.device }

pub are_put : (port : Port) (ids : List RequestId) (old new : ServerState) → IssuesTogetherIfAny port ids old new → ArePutInSlots port ids old new
are_put port [] old new none = record { tasks = []; taken = old; puts = refl; server = none ∙ ap (λ (n : ServerState). record old { device = n.device }) (sym none) }
are_put port (id ∷ ids) old new issues = record { tasks = issues.tasks; taken = issues.server_with_slots; puts = issues.puts; server = issues.server_is }

module _ (laws : PrerequisiteLaws) (port : Port) where
  -- ---- the issues of requests

  issues_only : (mode : QueueMode) (ids : List RequestId) (requests : List Pending) → HaveIds port ids requests → AllByDeviceOrIssue mode port (issues_newest_first mode requests)
  issues_only mode ids [] are = tt
  issues_only mode [] (e ∷ requests) are = absurd are
  issues_only mode (id ∷ ids) (e ∷ requests) are = only_append mode port (issues_newest_first mode requests) (Issue mode e ∷ []) (issues_only mode ids requests are.1) (refl, are.0.1, tt)

  issues_named : (mode : QueueMode) (ids : List RequestId) (requests : List Pending) → HaveIds port ids requests → (id : RequestId) → IsIssuedIn id (issues_newest_first mode requests) → Contains ids id
  issues_named mode ids [] are id i = absurd (false≢true i)
  issues_named mode [] (e ∷ requests) are id i = absurd are
  issues_named mode (first ∷ ids) (e ∷ requests) are id i = ⊎_elim
      (λ (late : IsIssuedIn id (issues_newest_first mode requests)). contains_there first ids id (issues_named mode ids requests are.1 id late))
      (λ (here : IsIssuedIn id (Issue mode e ∷ [])). contains_here first ids id (its_issue mode first e are.0.0 id here))
      (issued_parts id (issues_newest_first mode requests) (Issue mode e ∷ []) i)
    where
      its_issue : (mode : QueueMode) (first : RequestId) (e : Pending) → e.request.id ≡ first → (id : RequestId) → IsIssuedIn id (Issue mode e ∷ []) → id ≡ first
      its_issue mode first e is id here = same_id id first (sym (eqb-true e.request.id.0 id.0 (sym (or_none (e.request.id.0 == id.0)) ∙ here)) ∙ ap (λ (r : RequestId). r.0) is)

  issues_all : (mode : QueueMode) (ids : List RequestId) (requests : List Pending) → HaveIds port ids requests → (id : RequestId) → Contains ids id → IsIssuedIn id (issues_newest_first mode requests)
  issues_all mode [] requests are id there = absurd (nowhere id there)
  issues_all mode (first ∷ ids) [] are id there = absurd are
  issues_all mode (first ∷ ids) (e ∷ requests) are id there = ⊎_elim
      (λ (same : id ≡ first). issued_early id (issues_newest_first mode requests) (Issue mode e ∷ []) (or_left _ _ (eq-eqb e.request.id.0 id.0 (ap (λ (r : RequestId). r.0) (are.0.0 ∙ sym same)))))
      (λ (later : Contains ids id). issued_late id (issues_newest_first mode requests) (Issue mode e ∷ []) (issues_all mode ids requests are.1 id later))
      (contains_cases first ids id there)

  -- none is issued twice
  issues_last : (mode : QueueMode) (ids : List RequestId) (tasks : List PlacedTask) (s new : ServerState) → BookAndSlotsInvariant s → PutsInSlots port ids tasks s new → (requests : List Pending) → HaveIds port ids requests → IssueIsLastOfRequest (issues_newest_first mode requests)
  issues_last mode [] [] s new k none [] are = tt
  issues_last mode [] [] s new k none (e ∷ requests) are = absurd are
  issues_last mode (first ∷ ids) (t ∷ tasks) s new k (mid, one, more) [] are = absurd are
  issues_last mode (first ∷ ids) (t ∷ tasks) s new k (mid, one, more) (e ∷ requests) are =
      last_on mode port (issues_newest_first mode requests) (Issue mode e ∷ []) (issues_only mode ids requests are.1)
      (issues_last mode ids tasks mid new (put_keeps laws s mid port first t k one) more requests are.1)
      (tt, λ id h i. false≢true i)
      (λ id late i.
      let is : id ≡ first = same_id id first (sym (eqb-true e.request.id.0 id.0 (sym (or_none (e.request.id.0 == id.0)) ∙ i)) ∙ ap (λ (r : RequestId). r.0) are.0.0) in
      never_again laws port first t ids tasks s mid new k one more (subst (Contains ids) is (issues_named mode ids requests are.1 id late)))
  issues_last mode [] (t ∷ tasks) s new k puts requests are = absurd puts
  issues_last mode (first ∷ ids) [] s new k puts requests are = absurd puts

  pub each_issued : (ids : List RequestId) (old new : ServerState) → InCallInvariant old → IssuesTogetherIfAny port ids old new → (m : Machine) → IsReachable m → MachineRelation old m → AreIssued port ids old new m
  each_issued [] old new k none m reached is = record {
    steps = [];
    may = tt;
    backed = subst (λ (n : ServerState). TapeBacksSteps old.device n.device m []) (sym none) (laws.empty_steps_are_backed old.device m);
    stands = subst (λ (n : ServerState). MachineRelation n m) (sym none) is;
    only = tt;
    named = λ id i. absurd (false≢true i);
    all = λ id here. absurd (nowhere id here);
    last = tt;
  }
  each_issued (first ∷ ids) old new k issues m reached is =
      let x : AreIssuedTogether port (first ∷ ids) old new m = issued_together laws old new port first ids k issues m reached is in
      let mode : QueueMode = mode_in old port in
      let own : List Step = issues_newest_first mode x.requests in
      let only : AllByDeviceOrIssue mode port own = issues_only mode (first ∷ ids) x.requests x.ids_are in
      record {
        steps = own ++ x.steps;
        may = x.may;
        backed = x.backed;
        stands = x.stands;
        only = only_append mode port own x.steps only (devices_only mode port x.steps x.only);
        named = λ id i. ⊎_elim
            (λ (late : IsIssuedIn id own). issues_named mode (first ∷ ids) x.requests x.ids_are id late)
            (λ (before : IsIssuedIn id x.steps). absurd (false≢true (sym (devices_issue_none id x.steps x.only) ∙ before)))
            (issued_parts id own x.steps i);
        all = λ id there. issued_late id own x.steps (issues_all mode (first ∷ ids) x.requests x.ids_are id there);
        last = last_on mode port own x.steps only (issues_last mode (first ∷ ids) issues.tasks old issues.server_with_slots (book_and_slots laws old k) issues.puts x.requests x.ids_are) (devices_last x.steps x.only)
            (λ id late i. false≢true (sym (devices_issue_none id x.steps x.only) ∙ i));
      }

  pub each_kept : (ids : List RequestId) (old new : ServerState) → InCallInvariant old → IssuesTogetherIfAny port ids old new → InCallInvariant new
  each_kept [] old new k none = subst InCallInvariant (sym none) k
  each_kept (first ∷ ids) old new k issues = together_kept laws old new port first ids k issues

  -- in that no data comes for a command of the driver's own but on dead ports
  pub each_silent : (ids : List RequestId) (old new : ServerState) → InCallInvariant old → IssuesTogetherIfAny port ids old new → (q : ℕ) (o : Operation) → client_operation_of o ≡ None → probe_result_of old.probe_results q ≢ Unready Dead
      → GainsNoMove q o old.device new.device
  each_silent [] old new k none q o own other = subst (λ (n : ServerState). GainsNoMove q o old.device n.device) (sym none) (silent_none q o old.device)
  each_silent (first ∷ ids) old new k issues q o own other = together_silent laws old new port first ids k issues q o own other

  -- the accesses that issue them
  pub each_driven : (ids : List RequestId) (old new : ServerState) → IssuesTogetherIfAny port ids old new → IsDrivenBy (IsCommandIssueAccess port) old.device new.device
  each_driven [] old new none = subst (λ (n : ServerState). IsDrivenBy (IsCommandIssueAccess port) old.device n.device) (sym none) (by_none (IsCommandIssueAccess port) old.device)
  each_driven (first ∷ ids) old new issues = issues.issued.issues.driven

  -- ---- the server then

  -- but for the device, the slots and the book, the server is as it was
  pub each_settings : (ids : List RequestId) (old new : ServerState) → IssuesTogetherIfAny port ids old new → new ≡ record old { device = new.device; slots = new.slots; book = new.book }
  each_settings ids old new issues =
      let x : ArePutInSlots port ids old new = are_put port ids old new issues in
      x.server ∙ ap (λ (n : ServerState). record n { device = new.device }) (puts_settings laws port ids x.tasks old x.taken x.puts)
      ∙ ap (λ (n : ServerState). record old { device = new.device; slots = n.slots; book = n.book }) (sym x.server)

  -- nothing changes how ports take commands
  pub each_modes : (ids : List RequestId) (old new : ServerState) → IssuesTogetherIfAny port ids old new → new.modes ≡ old.modes
  each_modes ids old new issues = ap (λ (n : ServerState). n.modes) (each_settings ids old new issues)

  -- ---- the book then

  -- the requests of these ids issued
  abbrev with_each : List RequestId → List Unanswered → List Unanswered
  with_each [] book = book
  with_each (id ∷ ids) book = with_each ids (with_issued id book)

  -- what one that is put in a slot leaves of what is asked
  put_asks : (old mid : ServerState) (id : RequestId) (t : PlacedTask) → PutsInSlot port id t old mid → unanswered_of mid.book ≡ with_issued id (unanswered_of old.book)
  put_asks old mid id t one = ap (λ (n : ServerState). unanswered_of n.book) one.server_is ∙ laws.unanswered_after_issue old.book id

  puts_asks : (ids : List RequestId) (tasks : List PlacedTask) (old new : ServerState) → PutsInSlots port ids tasks old new → unanswered_of new.book ≡ with_each ids (unanswered_of old.book)
  puts_asks [] [] old new none = ap (λ (n : ServerState). unanswered_of n.book) none
  puts_asks (id ∷ ids) (t ∷ tasks) old new (mid, one, more) = puts_asks ids tasks mid new more ∙ ap (with_each ids) (put_asks old mid id t one)
  puts_asks [] (t ∷ tasks) old new puts = absurd puts
  puts_asks (id ∷ ids) [] old new puts = absurd puts

  each_asks : (ids : List RequestId) (old new : ServerState) → IssuesTogetherIfAny port ids old new → unanswered_of new.book ≡ with_each ids (unanswered_of old.book)
  each_asks ids old new issues =
      let x : ArePutInSlots port ids old new = are_put port ids old new issues in
      ap (λ (n : ServerState). unanswered_of n.book) x.server ∙ puts_asks ids x.tasks old x.taken x.puts

  -- once all that were due are issued, none is
  puts_done : (mode : QueueMode) (ids : List RequestId) (tasks : List PlacedTask) (old new : ServerState) → PutsInSlots port ids tasks old new → AreDueInTurnAndLeaveNoneDue mode port ids (unanswered_of old.book) → NoneDue mode (unanswered_of new.book) port
  puts_done mode [] [] old new none turns = subst (λ (n : ServerState). NoneDue mode (unanswered_of n.book) port) (sym none) turns
  puts_done mode (id ∷ ids) (t ∷ tasks) old new (mid, one, more) turns =
      puts_done mode ids tasks mid new more (subst (AreDueInTurnAndLeaveNoneDue mode port ids) (sym (put_asks old mid id t one)) turns.1)
  puts_done mode [] (t ∷ tasks) old new puts turns = absurd puts
  puts_done mode (id ∷ ids) [] old new puts turns = absurd puts

  pub each_done : (mode : QueueMode) (ids : List RequestId) (old new : ServerState) → IssuesTogetherIfAny port ids old new → AreDueInTurnAndLeaveNoneDue mode port ids (unanswered_of old.book) → NoneDue mode (unanswered_of new.book) port
  each_done mode ids old new issues turns =
      let x : ArePutInSlots port ids old new = are_put port ids old new issues in
      subst (λ (n : ServerState). NoneDue mode (unanswered_of n.book) port) (sym x.server) (puts_done mode ids x.tasks old x.taken x.puts turns)

  -- requests of another port are as they were
  puts_apart : (ids : List RequestId) (tasks : List PlacedTask) (old new : ServerState) → BookIsWellFormed old.book → PutsInSlots port ids tasks old new → (other : Port) → other ≢ port → requests_of_port other (unanswered_of new.book) ≡ requests_of_port other (unanswered_of old.book)
  puts_apart [] [] old new order none other ne = ap (λ (n : ServerState). requests_of_port other (unanswered_of n.book)) none
  puts_apart (first ∷ ids) (t ∷ tasks) old new order (mid, one, more) other ne =
      puts_apart ids tasks mid new (subst (λ (n : ServerState). BookIsWellFormed n.book) (sym one.server_is) (laws.issuing_keeps_book_well_formed old.book first order (subst (λ (id : RequestId). IsWaiting id old.book) one.id_is (laws.due_is_waiting (mode_in old port) old.book (as_unanswered one.request.request) one.due)))) more other ne
      ∙ ap (requests_of_port other) (put_asks old mid first t one ∙ ap (λ (id : RequestId). with_issued id (unanswered_of old.book)) (sym one.id_is))
      ∙ laws.issue_keeps_other_ports other (unanswered_of old.book) (as_unanswered one.request.request) (laws.unanswered_are_in_order old.book order) (into_map (λ (y : BookEntry). as_unanswered y.request) old.book one.request one.is_in_book)
      (λ same. ne (sym same ∙ one.port_is))
  puts_apart [] (t ∷ tasks) old new order puts other ne = absurd puts
  puts_apart (id ∷ ids) [] old new order puts other ne = absurd puts

  pub each_apart : (ids : List RequestId) (old new : ServerState) → BookIsWellFormed old.book → IssuesTogetherIfAny port ids old new → (other : Port) → other ≢ port → requests_of_port other (unanswered_of new.book) ≡ requests_of_port other (unanswered_of old.book)
  each_apart ids old new order issues other ne =
      let x : ArePutInSlots port ids old new = are_put port ids old new issues in
      ap (λ (n : ServerState). requests_of_port other (unanswered_of n.book)) x.server ∙ puts_apart ids x.tasks old x.taken order x.puts other ne

  -- and so are the slots of another port
  puts_slots : (ids : List RequestId) (tasks : List PlacedTask) (old new : ServerState) → PutsInSlots port ids tasks old new → (other : ℕ) → other ≢ port.0 → slots_at new.slots other ≡ slots_at old.slots other
  puts_slots [] [] old new none other ne = ap (λ (n : ServerState). slots_at n.slots other) none
  puts_slots (id ∷ ids) (t ∷ tasks) old new (mid, one, more) other ne =
      puts_slots ids tasks mid new more other ne ∙ ap (λ (n : ServerState). slots_at n.slots other) one.server_is ∙ get_or-set_other old.slots port.0 other _ no_slots ne
  puts_slots [] (t ∷ tasks) old new puts other ne = absurd puts
  puts_slots (id ∷ ids) [] old new puts other ne = absurd puts

  pub each_slots : (ids : List RequestId) (old new : ServerState) → IssuesTogetherIfAny port ids old new → (other : ℕ) → other ≢ port.0 → slots_at new.slots other ≡ slots_at old.slots other
  each_slots ids old new issues other ne =
      let x : ArePutInSlots port ids old new = are_put port ids old new issues in
      ap (λ (n : ServerState). slots_at n.slots other) x.server ∙ puts_slots ids x.tasks old x.taken x.puts other ne

  pub settled : (old new : ServerState) → InCallInvariant old → ((other : Port) → other ≢ port → NoneDue (mode_in old other) (unanswered_of old.book) other) → IssuesDueOfPort port old new → InvariantWithNoneDue new
  settled old new k none issues = record {
    in_call_invariant = each_kept ids old new k issues;
    none_is_due = λ other. subst (λ (modes : List QueueMode). NoneDue (mode_at modes other.0) (unanswered_of new.book) other) (sym (each_modes ids old new issues)) (⊎_elim
        (λ (same : other.0 ≡ port.0).
        subst (λ (q : Port). NoneDue (mode_in old q) (unanswered_of new.book) q) (ap (λ (n : ℕ). record { 0 = n }) (sym same))
        (each_done (mode_in old port) ids old new issues (laws.due_are_issued_in_order (mode_in old port) port (unanswered_of old.book) (laws.unanswered_are_in_order old.book k.book_is_well_formed))))
        (λ (ne : other.0 ≢ port.0).
        let apart : other ≢ port = λ same. ne (ap (λ (p : Port). p.0) same) in
        λ r own is_due. none other apart r own
        ((laws.due_depends_on_own_port (mode_in old other) other (unanswered_of new.book) (unanswered_of old.book) r (each_apart ids old new k.book_is_well_formed issues other apart) own).0 is_due))
        (cases_eq other.0 port.0));
  }
    where
      ids : List RequestId
      ids = due_ids (mode_in old port) port (unanswered_of old.book)

  -- ---- what was due is what was issued

  -- as it was, were none of them issued
  abbrev mark : List Step → Unanswered → Unanswered
  mark steps r = if list_any (issues_id r.id) steps then record r { issued = false } else r

  abbrev mark_each : List RequestId → Unanswered → Unanswered
  mark_each [] r = r
  mark_each (id ∷ ids) r = mark_each ids (mark_issued id r)

  each_marks : (ids : List RequestId) (book : List Unanswered) → with_each ids book ≡ map (mark_each ids) book
  each_marks [] book = sym (map_same book)
    where
      map_same : (xs : List Unanswered) → map (λ (r : Unanswered). r) xs ≡ xs
      map_same [] = refl
      map_same (x ∷ xs) = ap (λ (ys : List Unanswered). x ∷ ys) (map_same xs)
  each_marks (id ∷ ids) book = each_marks ids (with_issued id book) ∙ map_map book
    where
      map_map : (xs : List Unanswered) → map (mark_each ids) (map (mark_issued id) xs) ≡ map (λ (r : Unanswered). mark_each ids (mark_issued id r)) xs
      map_map [] = refl
      map_map (x ∷ xs) = ap (λ (ys : List Unanswered). mark_each ids (mark_issued id x) ∷ ys) (map_map xs)

  -- what issuing these leaves of a request
  each_mark : (ids : List RequestId) (r : Unanswered) → ((mark_each ids r ≡ r) × (Contains ids r.id → ⊥)) ⊎ ((mark_each ids r ≡ record r { issued = true }) × Contains ids r.id)
  each_mark [] r = inl (refl, λ here. nowhere r.id here)
  each_mark (id ∷ ids) r = ⊎_elim
      (λ (its : (r.id.0 == id.0) ≡ true).
      let same : r.id ≡ id = same_id r.id id (eqb-true r.id.0 id.0 its) in
      let head : mark_issued id r ≡ record r { issued = true } = cond-true (r.id.0 == id.0) (record r { issued = true }) r its in
      inr (ap (mark_each ids) head ∙ ⊎_elim (λ one. one.0) (λ one. one.0) (each_mark ids (record r { issued = true })), contains_here id ids r.id same))
      (λ (other : (r.id.0 == id.0) ≡ false).
      let head : mark_issued id r ≡ r = cond-false (r.id.0 == id.0) (record r { issued = true }) r other in
      ⊎_elim
      (λ (one : (mark_each ids r ≡ r) × (Contains ids r.id → ⊥)).
      inl (ap (mark_each ids) head ∙ one.0, λ here. ⊎_elim (λ (same : r.id ≡ id). false≢true (sym other ∙ eq-eqb r.id.0 id.0 (ap (λ (i : RequestId). i.0) same))) one.1 (contains_cases id ids r.id here)))
      (λ (one : (mark_each ids r ≡ record r { issued = true }) × Contains ids r.id). inr (ap (mark_each ids) head ∙ one.0, contains_there id ids r.id one.1))
      (each_mark ids r))
      (cases_Bool (r.id.0 == id.0))

  -- and with that undone, it is as it was
  unmarked : (ids : List RequestId) (steps : List Step) (r : Unanswered) → ((id : RequestId) → IsIssuedIn id steps → Contains ids id) → ((id : RequestId) → Contains ids id → IsIssuedIn id steps)
      → (Contains ids r.id → r.issued ≡ false) → mark steps (mark_each ids r) ≡ r
  unmarked ids steps r named all waits = ⊎_elim
      (λ (one : (mark_each ids r ≡ r) × (Contains ids r.id → ⊥)).
      ap (mark steps) one.0 ∙ ⊎_elim
      (λ (issued : IsIssuedIn r.id steps). absurd (one.1 (named r.id issued)))
      (λ (none : list_any (issues_id r.id) steps ≡ false). cond-false (list_any (issues_id r.id) steps) (record r { issued = false }) r none)
      (cases_Bool (list_any (issues_id r.id) steps)))
      (λ (one : (mark_each ids r ≡ record r { issued = true }) × Contains ids r.id).
      let here : record r { issued = false } ≡ r = (λ i. record r { issued = sym (waits one.1) i }) in
      ap (mark steps) one.0 ∙ cond-true (list_any (issues_id r.id) steps) (record r { issued = false }) (record r { issued = true }) (all r.id one.1) ∙ here)
      (each_mark ids r)

  unmarked_all : (f g : Unanswered → Unanswered) (xs : List Unanswered) → ((r : Unanswered) → Contains xs r → f (g r) ≡ r) → map f (map g xs) ≡ xs
  unmarked_all f g [] each = refl
  unmarked_all f g (x ∷ xs) each =
      ap (λ (y : Unanswered). y ∷ map f (map g xs)) (each x (first_here x xs)) ∙ ap (λ (ys : List Unanswered). x ∷ ys) (unmarked_all f g xs (λ r here. each r (contains_there x xs r here)))

  module _ (old new : ServerState) (k : InCallInvariant old) (issues : IssuesDueOfPort port old new) (m : Machine) (x : AreIssued port (due_ids (mode_in old port) port (unanswered_of old.book)) old new m) where
    abbrev ids : List RequestId
    ids = due_ids (mode_in old port) port (unanswered_of old.book)

    -- a request of the book whose id is among these is due, and of the port
    is_due : (r : Unanswered) → Contains (unanswered_of old.book) r → Contains ids r.id → IsDue (mode_in old port) (unanswered_of old.book) r × (r.port ≡ port)
    is_due r here there =
        let y = map_in (λ (u : Unanswered). u.id) (due_of (mode_in old port) port (unanswered_of old.book)) r.id there in
        let own : y.0.port ≡ port = laws.due_list_is_of_port (mode_in old port) port (unanswered_of old.book) y.0 y.1 in
        let its : IsDue (mode_in old port) (unanswered_of old.book) y.0 = (laws.due_list_is_exact (mode_in old port) port (unanswered_of old.book) y.0 own).0 y.1 in
        let a = map_in (λ (e : BookEntry). as_unanswered e.request) old.book r here in
        let b = map_in (λ (e : BookEntry). as_unanswered e.request) old.book y.0 its.is_in_book in
        let one : a.0 ≡ b.0 = laws.an_id_is_one_entry old.book a.0 b.0 k.book_is_well_formed a.1 b.1 (sym (ap (λ (u : Unanswered). u.id) a.2) ∙ y.2 ∙ ap (λ (u : Unanswered). u.id) b.2) in
        let same : y.0 ≡ r = b.2 ∙ ap (λ (e : BookEntry). as_unanswered e.request) (sym one) ∙ sym a.2 in
        (subst (IsDue (mode_in old port) (unanswered_of old.book)) same its, ap (λ (u : Unanswered). u.port) (sym same) ∙ own)

    was : with_issue_undone x.steps (map unanswered (after m x.steps).book) ≡ unanswered_of old.book
    was =
        ap (map (mark x.steps)) (same_book new.book (after m x.steps).book x.stands.book ∙ each_asks ids old new issues ∙ each_marks ids (unanswered_of old.book))
        ∙ unmarked_all (mark x.steps) (mark_each ids) (unanswered_of old.book)
        (λ r here. unmarked ids x.steps r x.named x.all (λ there. not_true r.issued (and_parts _ _ (is_due r here there).0.waits_and_nothing_blocks).0))

    pub dues : (q : Port) → (q ≢ port → NoneDue (mode_in old q) (unanswered_of old.book) q) → IssuesDue (mode_in old q) x.steps (after m x.steps) q
    dues q none = subst (λ (us : List Unanswered). (r : Unanswered) → Contains us r → r.port ≡ q → IsIssuedIn r.id x.steps ↔ IsDue (mode_in old q) us r) (sym was) exact
      where
        exact : (r : Unanswered) → Contains (unanswered_of old.book) r → r.port ≡ q → IsIssuedIn r.id x.steps ↔ IsDue (mode_in old q) (unanswered_of old.book) r
        exact r here own = (
          (λ issued. let d = is_due r here (x.named r.id issued) in subst (λ (z : Port). IsDue (mode_in old z) (unanswered_of old.book) r) (sym d.1 ∙ own) d.0),
          (λ its. ⊎_elim
              (λ (same : q.0 ≡ port.0).
              let update_if_id : r.port ≡ port = own ∙ ap (λ (n : ℕ). record { 0 = n }) same in
              x.all r.id (into_map (λ (u : Unanswered). u.id) (due_of (mode_in old port) port (unanswered_of old.book)) r ((laws.due_list_is_exact (mode_in old port) port (unanswered_of old.book) r update_if_id).1 (subst (λ (z : Port). IsDue (mode_in old z) (unanswered_of old.book) r) (ap (λ (n : ℕ). record { 0 = n }) same) its))))
              (λ (ne : q.0 ≢ port.0). absurd (none (λ same. ne (ap (λ (p : Port). p.0) same)) r own its))
              (cases_eq q.0 port.0)),
        )

-- ---- what is due of a port, after more steps

-- the requests of the port among these
own_in : (q : Port) (xs : List Unanswered) (r : Unanswered) → Contains (requests_of_port q xs) r → Contains xs r × (r.port ≡ q)
own_in q [] r here = absurd (nowhere r here)
own_in q (x ∷ xs) r here = ⊎_elim
    (λ (its : (x.port.0 == q.0) ≡ true). ⊎_elim
    (λ (same : r ≡ x). (contains_here x xs r same, ap (λ (u : Unanswered). u.port) same ∙ ap (λ (n : ℕ). record { 0 = n }) (eqb-true x.port.0 q.0 its)))
    (λ (later : Contains (requests_of_port q xs) r). let rest = own_in q xs r later in (contains_there x xs r rest.0, rest.1))
    (contains_cases x (requests_of_port q xs) r (subst (λ (us : List Unanswered). Contains us r) (cond-true (x.port.0 == q.0) (x ∷ requests_of_port q xs) (requests_of_port q xs) its) here)))
    (λ (other : (x.port.0 == q.0) ≡ false).
    let rest = own_in q xs r (subst (λ (us : List Unanswered). Contains us r) (cond-false (x.port.0 == q.0) (x ∷ requests_of_port q xs) (requests_of_port q xs) other) here) in
    (contains_there x xs r rest.0, rest.1))
    (cases_Bool (x.port.0 == q.0))

in_own : (q : Port) (xs : List Unanswered) (r : Unanswered) → Contains xs r → r.port ≡ q → Contains (requests_of_port q xs) r
in_own q [] r here own = absurd (nowhere r here)
in_own q (x ∷ xs) r here own = ⊎_elim
    (λ (its : (x.port.0 == q.0) ≡ true). subst (λ (us : List Unanswered). Contains us r) (sym (cond-true (x.port.0 == q.0) (x ∷ requests_of_port q xs) (requests_of_port q xs) its)) (⊎_elim
    (λ (same : r ≡ x). contains_here x (requests_of_port q xs) r same)
    (λ (later : Contains xs r). contains_there x (requests_of_port q xs) r (in_own q xs r later own))
    (contains_cases x xs r here)))
    (λ (other : (x.port.0 == q.0) ≡ false). subst (λ (us : List Unanswered). Contains us r) (sym (cond-false (x.port.0 == q.0) (x ∷ requests_of_port q xs) (requests_of_port q xs) other)) (⊎_elim
    (λ (same : r ≡ x). absurd (false≢true (sym other ∙ eq-eqb x.port.0 q.0 (ap (λ (u : Unanswered). u.port.0) (sym same) ∙ ap (λ (p : Port). p.0) own))))
    (λ (later : Contains xs r). in_own q xs r later own)
    (contains_cases x xs r here)))
    (cases_Bool (x.port.0 == q.0))

-- what leaves each one's port leaves which are the port's
own_map : (q : Port) (f : Unanswered → Unanswered) → ((r : Unanswered) → (f r).port ≡ r.port) → (xs : List Unanswered) → requests_of_port q (map f xs) ≡ map f (requests_of_port q xs)
own_map q f keeps [] = refl
own_map q f keeps (x ∷ xs) = ⊎_elim
    (λ (its : (x.port.0 == q.0) ≡ true).
    cond-true ((f x).port.0 == q.0) (f x ∷ requests_of_port q (map f xs)) (requests_of_port q (map f xs)) (ap (λ (p : Port). p.0 == q.0) (keeps x) ∙ its)
    ∙ ap (λ (us : List Unanswered). f x ∷ us) (own_map q f keeps xs) ∙ ap (map f) (sym (cond-true (x.port.0 == q.0) (x ∷ requests_of_port q xs) (requests_of_port q xs) its)))
    (λ (other : (x.port.0 == q.0) ≡ false).
    cond-false ((f x).port.0 == q.0) (f x ∷ requests_of_port q (map f xs)) (requests_of_port q (map f xs)) (ap (λ (p : Port). p.0 == q.0) (keeps x) ∙ other)
    ∙ own_map q f keeps xs ∙ ap (map f) (sym (cond-false (x.port.0 == q.0) (x ∷ requests_of_port q xs) (requests_of_port q xs) other)))
    (cases_Bool (x.port.0 == q.0))

map_alike : (f g : Unanswered → Unanswered) (xs : List Unanswered) → ((r : Unanswered) → Contains xs r → f r ≡ g r) → map f xs ≡ map g xs
map_alike f g [] each = refl
map_alike f g (x ∷ xs) each = ap (λ (y : Unanswered). y ∷ map f xs) (each x (first_here x xs)) ∙ ap (λ (ys : List Unanswered). g x ∷ ys) (map_alike f g xs (λ r here. each r (contains_there x xs r here)))

mark_port : (steps : List Step) (r : Unanswered) → (if list_any (issues_id r.id) steps then record r { issued = false } else r).port ≡ r.port
mark_port steps r = by (list_any (issues_id r.id) steps)
  where
    by : (b : Bool) → (if b then record r { issued = false } else r).port ≡ r.port
    by true = refl
    by false = refl

mark_id : (steps : List Step) (r : Unanswered) → (if list_any (issues_id r.id) steps then record r { issued = false } else r).id ≡ r.id
mark_id steps r = by (list_any (issues_id r.id) steps)
  where
    by : (b : Bool) → (if b then record r { issued = false } else r).id ≡ r.id
    by true = refl
    by false = refl

-- Where the port's requests are the same in two machines, and the same of them are issued in two lists of steps, what is due once the others
-- are undone is the same.
pub dues_carried : PrerequisiteLaws → (mode : QueueMode) → (one other : List Step) (m n : Machine) (q : Port) → requests_of_port q (map unanswered m.book) ≡ requests_of_port q (map unanswered n.book)
    → ((r : Unanswered) → Contains (map unanswered m.book) r → r.port ≡ q → list_any (issues_id r.id) one ≡ list_any (issues_id r.id) other)
    → IssuesDue mode one m q → IssuesDue mode other n q
dues_carried laws mode one other m n q same alike dues r here own = (
  (λ issued. (laws.due_depends_on_own_port mode q a b r marks own).0 (was.0 (id_alike ∙ issued))),
  (λ due_now. sym id_alike ∙ was.1 ((laws.due_depends_on_own_port mode q a b r marks own).1 due_now)),
)
  where
    a : List Unanswered
    a = with_issue_undone one (map unanswered m.book)

    b : List Unanswered
    b = with_issue_undone other (map unanswered n.book)

    own_alike : (x : Unanswered) → Contains (requests_of_port q (map unanswered m.book)) x → (if list_any (issues_id x.id) one then record x { issued = false } else x) ≡ (if list_any (issues_id x.id) other then record x { issued = false } else x)
    own_alike x there =
        let w = own_in q (map unanswered m.book) x there in
        ap (λ (c : Bool). if c then record x { issued = false } else x) (alike x w.0 w.1)

    marks : requests_of_port q a ≡ requests_of_port q b
    marks =
        own_map q _ (mark_port one) (map unanswered m.book) ∙ map_alike _ _ (requests_of_port q (map unanswered m.book)) own_alike
        ∙ ap (map (λ (x : Unanswered). if list_any (issues_id x.id) other then record x { issued = false } else x)) same ∙ sym (own_map q _ (mark_port other) (map unanswered n.book))

    there_too : Contains a r
    there_too = (own_in q a r (subst (λ (us : List Unanswered). Contains us r) (sym marks) (in_own q b r here own))).0

    was : IsIssuedIn r.id one ↔ IsDue mode a r
    was = dues r there_too own

    id_alike : list_any (issues_id r.id) one ≡ list_any (issues_id r.id) other
    id_alike =
        let x = map_in _ (map unanswered m.book) r there_too in
        let id_is : r.id ≡ x.0.id = ap (λ (u : Unanswered). u.id) x.2 ∙ mark_id one x.0 in
        let port_is : x.0.port ≡ q = sym (mark_port one x.0) ∙ sym (ap (λ (u : Unanswered). u.port) x.2) ∙ own in
        ap (λ (i : RequestId). list_any (issues_id i) one) id_is ∙ alike x.0 x.1 port_is ∙ ap (λ (i : RequestId). list_any (issues_id i) other) (sym id_is)
