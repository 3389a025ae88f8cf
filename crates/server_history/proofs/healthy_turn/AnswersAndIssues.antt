-- Requests of a port whose slots were found done are answered, one after another; and then its due requests are issued.
use Rattle.std.proofs.Common.{ℕ, ◌≡◌, ◌≢◌, List, [], ◌∷◌, inl, inr, sym, ap, ◌∙◌, subst}
use Rattle.std.specs.List.{AllZip}
use Rattle.std.proofs.lemmas.List.{get_or-set_other}
use Rattle.ata_types.specs.declared.Port.{Port}
use Rattle.ata_types.specs.declared.PortState.TheVariants.{Ready}
use Rattle.ata_types.specs.declared.request.Outcome.TheVariants.{Ok}
use Rattle.ata_types.specs.declared.request.Reply.{Reply}
use Rattle.adapter.specs.Device.{Device}
use Rattle.refinement.specs.Driver.{TapeBacksSteps}
use Rattle.block_machine.specs.DueRequests.{IsDue, NoneDue, requests_of_port}
use Rattle.block_machine.specs.declared.due.QueueMode.{QueueMode}
use Rattle.block_machine.specs.Events.{AllEnabled}
use Rattle.block_machine.specs.Histories.{IsReachable}
use Rattle.block_machine.specs.Expected.{after}
use Rattle.block_machine.specs.State.{Machine, Pending}
use Rattle.block_machine.specs.Steps.{Step, Answer}
use Rattle.server_history.proofs.state.ListMembers.{into_map}
use Rattle.host_boot.specs.TakeOver.{probe_result_of}
use Rattle.host_boot.specs.declared.ProbeResult.{ProbeResult}
use Rattle.request_queue.specs.BookEntries.{BookEntry, BookIsWellFormed, as_unanswered, unanswered_of, due_ids}
use Rattle.server_history.specs.Prerequisites.{PrerequisiteLaws}
use Rattle.server_history.specs.IssuingAndAnswering.{AnswersDoneAndIssues, AnswersEach, AnswersOne, TurnAnswers, HasEnded, PollsInTurnWithoutEvent, SameButDeviceLoansSlotsBook, ok_answers_newest_first}
use Rattle.server_history.specs.ServerState.{ServerState, InCallInvariant, MachineRelation, InvariantWithNoneDue, mode_in, no_slots, slots_at, state_of}
use Rattle.server_history.proofs.healthy_turn.OneAnswer.{IsAnswer, answer_kept, answer_one}
use Rattle.server_history.proofs.plain_calls.IssueRounds.{each_apart, each_settings, each_slots, settled}
use Rattle.dma_frames.specs.FrameTables.{OwnersAndLoans}
use Rattle.server_history.proofs.state.PortSlots.{CommandsAreOver}

-- an answer leaves the requests of other ports
answer_apart : PrerequisiteLaws → (port : Port) (e : BookEntry) (old new : ServerState) → BookIsWellFormed old.book → AnswersOne port e old new → (other : Port) → other ≢ port → requests_of_port other (unanswered_of new.book) ≡ requests_of_port other (unanswered_of old.book)
answer_apart laws port e old new order one other ne =
    ap (requests_of_port other) (ap (λ (n : ServerState). unanswered_of n.book) one.server_is ∙ laws.unanswered_after_answer old.book e.request.id)
    ∙ laws.answer_keeps_other_ports other (unanswered_of old.book) (as_unanswered e.request) (laws.unanswered_are_in_order old.book order) (into_map (λ (y : BookEntry). as_unanswered y.request) old.book e one.is_in_book) (λ same. ne (sym same ∙ one.port_is))

answer_order : PrerequisiteLaws → (port : Port) (e : BookEntry) (old new : ServerState) → BookIsWellFormed old.book → AnswersOne port e old new → BookIsWellFormed new.book
answer_order laws port e old new order one = subst (λ (n : ServerState). BookIsWellFormed n.book) (sym one.server_is) (laws.removing_keeps_book_well_formed old.book e.request.id order)

-- These requests are answered by a machine's steps, after which the machine stands for the new server.
pub record AreAnswered (port : Port) (requests : List BookEntry) (old new : ServerState) (m : Machine) : Type 0 where
  pub ended : List Pending
  pub each : AllZip (HasEnded port) requests ended
  pub may : AllEnabled m (ok_answers_newest_first ended)
  pub backed : TapeBacksSteps old.device new.device m (ok_answers_newest_first ended)
  pub stands : MachineRelation new (after m (ok_answers_newest_first ended))

module _ (laws : PrerequisiteLaws) (port : Port) (done : ℕ) where
  pub answers_apart : (requests : List BookEntry) (old new : ServerState) → BookIsWellFormed old.book → AnswersEach port done requests old new → (other : Port) → other ≢ port
      → requests_of_port other (unanswered_of new.book) ≡ requests_of_port other (unanswered_of old.book)
  answers_apart [] old new order none other ne = ap (λ (n : ServerState). requests_of_port other (unanswered_of n.book)) none
  answers_apart (e ∷ requests) old new order (mid, one, its, more) other ne =
      answers_apart requests mid new (answer_order laws port e old mid order one) more other ne ∙ answer_apart laws port e old mid order one other ne

  pub answers_order : (requests : List BookEntry) (old new : ServerState) → BookIsWellFormed old.book → AnswersEach port done requests old new → BookIsWellFormed new.book
  answers_order [] old new order none = subst (λ (n : ServerState). BookIsWellFormed n.book) (sym none) order
  answers_order (e ∷ requests) old new order (mid, one, its, more) = answers_order requests mid new (answer_order laws port e old mid order one) more

  -- but for the loans, the slots and the book, the server is as it was
  pub answers_settings : (requests : List BookEntry) (old new : ServerState) → AnswersEach port done requests old new → new ≡ record old { table = new.table; slots = new.slots; book = new.book }
  answers_settings [] old new none = none ∙ ap (λ (n : ServerState). record old { table = n.table; slots = n.slots; book = n.book }) (sym none)
  answers_settings (e ∷ requests) old new (mid, one, its, more) =
      answers_settings requests mid new more ∙ ap (λ (n : ServerState). record n { table = new.table; slots = new.slots; book = new.book }) one.server_is

  -- and the slots of other ports as they were
  pub answers_slots : (requests : List BookEntry) (old new : ServerState) → AnswersEach port done requests old new → (other : ℕ) → other ≢ port.0 → slots_at new.slots other ≡ slots_at old.slots other
  answers_slots [] old new none other ne = ap (λ (n : ServerState). slots_at n.slots other) none
  answers_slots (e ∷ requests) old new (mid, one, its, more) other ne =
      answers_slots requests mid new more other ne ∙ ap (λ (n : ServerState). slots_at n.slots other) one.server_is ∙ get_or-set_other old.slots port.0 other _ no_slots ne

  -- what is over and ready stays so
  pub over_on : (e : BookEntry) (old mid : ServerState) → AnswersOne port e old mid → CommandsAreOver port done old.device → CommandsAreOver port done mid.device
  over_on e old mid one over = subst (CommandsAreOver port done) (sym (ap (λ (n : ServerState). n.device) one.server_is)) over

  pub ready_on : (e : BookEntry) (old mid : ServerState) → AnswersOne port e old mid → state_of (probe_result_of old.probe_results port.0) ≡ Ready → state_of (probe_result_of mid.probe_results port.0) ≡ Ready
  ready_on e old mid one ready = subst (λ (found : List ProbeResult). state_of (probe_result_of found port.0) ≡ Ready) (sym (ap (λ (n : ServerState). n.probe_results) one.server_is)) ready

  pub answers_kept : (requests : List BookEntry) (old new : ServerState) → InCallInvariant old → state_of (probe_result_of old.probe_results port.0) ≡ Ready → CommandsAreOver port done old.device → AnswersEach port done requests old new → InCallInvariant new
  answers_kept [] old new k ready over none = subst InCallInvariant (sym none) k
  answers_kept (e ∷ requests) old new k ready over (mid, one, its, more) =
      answers_kept requests mid new (answer_kept laws old mid port e k ready one (over one.slot one.slot_is_below_32 its)) (ready_on e old mid one ready) (over_on e old mid one over) more

  pub each_answered : (requests : List BookEntry) (old new : ServerState) → InCallInvariant old → state_of (probe_result_of old.probe_results port.0) ≡ Ready → CommandsAreOver port done old.device → AnswersEach port done requests old new
      → (m : Machine) → IsReachable m → MachineRelation old m → AreAnswered port requests old new m
  each_answered [] old new k ready over none m reached is = record {
    ended = [];
    each = tt;
    may = tt;
    backed = subst (λ (n : ServerState). TapeBacksSteps old.device n.device m []) (sym none) (laws.empty_steps_are_backed old.device m);
    stands = subst (λ (n : ServerState). MachineRelation n m) (sym none) is;
  }
  each_answered (e ∷ requests) old new k ready over (mid, one, its, more) m reached is =
      let y : IsAnswer port e old mid m = answer_one laws old mid port e k ready one (over one.slot one.slot_is_below_32 its) m reached is in
      let first : List Step = Answer y.done Ok ∷ [] in
      let z : AreAnswered port requests mid new (after m first) = each_answered requests mid new (answer_kept laws old mid port e k ready one (over one.slot one.slot_is_below_32 its))
      (ready_on e old mid one ready) (over_on e old mid one over) more (after m first) (laws.steps_and_accesses.reachable_stays_reachable m first reached (tt, (y.here, tt))) y.stands in
      record {
        ended = y.done ∷ z.ended;
        each = (y.has, z.each);
        may = laws.steps_and_accesses.enabled_lists_join m (ok_answers_newest_first z.ended) first (tt, (y.here, tt)) z.may;
        backed = laws.backed_parts_join old.device mid.device new.device m first (ok_answers_newest_first z.ended)
            (subst (λ (d : Device). TapeBacksSteps old.device d m first) (sym (ap (λ (n : ServerState). n.device) one.server_is)) (laws.drivers_own_step_is_backed old.device m (Answer y.done Ok) (λ none. none))) z.backed;
        stands = subst (MachineRelation new) (sym (laws.steps_and_accesses.after_joins m (ok_answers_newest_first z.ended) first)) z.stands;
      }

  pub answers_settle : (replies : List Reply) (s new : ServerState) → InvariantWithNoneDue s → state_of (probe_result_of s.probe_results port.0) ≡ Ready → CommandsAreOver port done s.device → AnswersDoneAndIssues port done replies s new → InvariantWithNoneDue new
  answers_settle replies s new t ready over a = settled laws port a.server_after_answers new (answers_kept a.requests s a.server_after_answers t.in_call_invariant ready over a.answers_each) none_other a.issued
    where
      none_other : (other : Port) → other ≢ port → NoneDue (mode_in a.server_after_answers other) (unanswered_of a.server_after_answers.book) other
      none_other other ne r own due =
          let mode_is : mode_in a.server_after_answers other ≡ mode_in s other = ap (λ (n : ServerState). mode_in n other) (answers_settings a.requests s a.server_after_answers a.answers_each) in
          let here : IsDue (mode_in s other) (unanswered_of a.server_after_answers.book) r = subst (λ (mode : QueueMode). IsDue mode (unanswered_of a.server_after_answers.book) r) mode_is due in
          t.none_is_due other r own ((laws.due_depends_on_own_port (mode_in s other) other (unanswered_of a.server_after_answers.book) (unanswered_of s.book) r (answers_apart a.requests s a.server_after_answers t.in_call_invariant.book_is_well_formed a.answers_each other ne) own).0 here)

-- ---- a port's turn

-- what a turn leaves of the server
pub turn_settings : PrerequisiteLaws → (port : Port) (replies : List Reply) (old new : ServerState) (turn : PollsInTurnWithoutEvent port (slots_at old.slots port.0) replies old.device new.device) → TurnAnswers port replies old new turn
    → SameButDeviceLoansSlotsBook old new
turn_settings laws port replies old new turn (inl (none, is)) = is ∙ ap (λ (n : ServerState). record old { device = n.device; table = n.table; slots = n.slots; book = n.book }) (sym is)
turn_settings laws port replies old new turn (inr (some, a)) =
    let c = turn.polls_used_slots.polls_slots some in
    each_settings laws port (due_ids (mode_in a.server_after_answers port) port (unanswered_of a.server_after_answers.book)) a.server_after_answers new a.issued
    ∙ ap (λ (n : ServerState). record n { device = new.device; slots = new.slots; book = new.book }) (answers_settings laws port c.done a.requests (record old { device = c.device_after_read }) a.server_after_answers a.answers_each)
    ∙ ap (λ (table : OwnersAndLoans). record old { device = new.device; table = table; slots = new.slots; book = new.book }) (sym table_is)
  where
    table_is : new.table ≡ a.server_after_answers.table
    table_is = ap (λ (n : ServerState). n.table) (each_settings laws port (due_ids (mode_in a.server_after_answers port) port (unanswered_of a.server_after_answers.book)) a.server_after_answers new a.issued)

-- and of the requests of another port
pub turn_apart : PrerequisiteLaws → (port : Port) (replies : List Reply) (old new : ServerState) (turn : PollsInTurnWithoutEvent port (slots_at old.slots port.0) replies old.device new.device) → BookIsWellFormed old.book
    → TurnAnswers port replies old new turn → (other : Port) → other ≢ port → requests_of_port other (unanswered_of new.book) ≡ requests_of_port other (unanswered_of old.book)
turn_apart laws port replies old new turn order (inl (none, is)) other ne = ap (λ (n : ServerState). requests_of_port other (unanswered_of n.book)) is
turn_apart laws port replies old new turn order (inr (some, a)) other ne =
    let c = turn.polls_used_slots.polls_slots some in
    each_apart laws port (due_ids (mode_in a.server_after_answers port) port (unanswered_of a.server_after_answers.book)) a.server_after_answers new (answers_order laws port c.done a.requests (record old { device = c.device_after_read }) a.server_after_answers order a.answers_each) a.issued other ne
    ∙ answers_apart laws port c.done a.requests (record old { device = c.device_after_read }) a.server_after_answers order a.answers_each other ne

-- and of the slots of another port
pub turn_slots : PrerequisiteLaws → (port : Port) (replies : List Reply) (old new : ServerState) (turn : PollsInTurnWithoutEvent port (slots_at old.slots port.0) replies old.device new.device) → TurnAnswers port replies old new turn
    → (other : ℕ) → other ≢ port.0 → slots_at new.slots other ≡ slots_at old.slots other
turn_slots laws port replies old new turn (inl (none, is)) other ne = ap (λ (n : ServerState). slots_at n.slots other) is
turn_slots laws port replies old new turn (inr (some, a)) other ne =
    let c = turn.polls_used_slots.polls_slots some in
    each_slots laws port (due_ids (mode_in a.server_after_answers port) port (unanswered_of a.server_after_answers.book)) a.server_after_answers new a.issued other ne
    ∙ answers_slots laws port c.done a.requests (record old { device = c.device_after_read }) a.server_after_answers a.answers_each other ne
