-- How a ready port is served: where nobody is answered, and where what it has issued is.
use Rattle.std.proofs.Common.{ℕ, arith, ◌≡◌, ◌≢◌, ◌<◌, ◌∷◌, ◌++◌, ◌||◌, Bool, true, false, not, ◌&&◌, List, [], length, Some, None, refl, sym, ap, ◌∙◌, subst, inl, inr, ⊎_elim}
use Rattle.std.specs.Prelude.{◌↔◌}
use Rattle.std.proofs.lemmas.Bool.{cases_eq, false≢true}
use Rattle.std.specs.List.{Contains, list_any}
use Rattle.ata_types.specs.declared.Port.{Port}
use Rattle.ata_types.specs.declared.PortState.TheVariants.{Dead, Ready as ReadyState}
use Rattle.ata_types.specs.declared.request.Outcome.TheVariants.{Ok}
use Rattle.ata_types.specs.declared.request.Reply.{Reply}
use Rattle.ata_types.specs.declared.request.RequestId.{RequestId}
use Rattle.hba_regs.specs.Bits.{bit}
use Rattle.adapter.specs.Commands.{is_queued}
use Rattle.adapter.specs.Device.{Device}
use Rattle.adapter.specs.declared.command.Operation.TheVariants.{ReadLog}
use Rattle.refinement.specs.Fragments.{AnySlotStates, IsDrivenBy, IsSimulated, GainsNoMove}
use Rattle.refinement.specs.Driver.{TapeBacksSteps}
use Rattle.adapter.specs.OneCommand.{SlotHasNoCommand}
use Rattle.refinement.specs.Slots.{Serves, ServesRequest, IsInSomeStage}
use Rattle.server_history.proofs.state.FollowedAccesses.{followed_adds}
use Rattle.server_history.specs.AccessPurposes.AccessPurpose.{ReadingMasks, Looking, Servicing}
use Rattle.server_history.proofs.state.DrivenAccesses.{by_none}
use Rattle.block_machine.specs.Events.{AllByDevice, AllEnabled, issues_id}
use Rattle.block_machine.specs.Histories.{IsReachable}
use Rattle.block_machine.specs.Expected.{after}
use Rattle.block_machine.specs.State.{Machine, Pending}
use Rattle.block_machine.specs.declared.due.QueueMode.{QueueMode}
use Rattle.block_machine.specs.Steps.{Step, Answer}
use Rattle.server_history.proofs.state.ListMembers.{contains_cases, contains_there, into_map, map_in}
use Rattle.host_boot.specs.TakeOver.{probe_result_of}
use Rattle.host_boot.specs.declared.ProbeResult.TheVariants.{Ready}
use Rattle.driver_history.specs.Histories.{IssuesDue}
use Rattle.identify.specs.declared.DiskInfo.{DiskInfo}
use Rattle.ncq.specs.Masks.{ReadsDone, FindsEachClearSlot}
use Rattle.port_control.specs.PortEvents.{IsPxisSstsOrOwnIsAccess, TakesEvent}
use Rattle.port_control.specs.ServiceAccesses.{WritesOnlyHbaIsPxIsCiOrSact}
use Rattle.port_control.specs.declared.events.PortEvent.TheVariants.{NoEvent}
use Rattle.request_queue.specs.BookEntries.{BookEntry, unanswered_of, due_ids}
use Rattle.slots.specs.SlotUses.{PortSlots}
use Rattle.slots.specs.declared.SlotUse.{SlotUse}
use Rattle.server_history.specs.Prerequisites.{PrerequisiteLaws}
use Rattle.ncq.specs.Batches.{IsCommandIssueAccess}
use Rattle.server_history.specs.IssuingAndAnswering.{AnswersDoneAndIssues, AnswersEach, AnswersOne, IsEmptyMask, PollsInTurnWithoutEvent, IsMaskOf, AllByDeviceOrIssue, IsAnsweredIn, ok_answers_newest_first, done_reply, is_used}
use Rattle.server_history.specs.Turns.{ServicesPort}
use Rattle.server_history.specs.ServerState.{ServerState, InCallInvariant, MachineRelation, InvariantWithNoneDue, mode_in, slots_at, state_of, used_for, with_slot}
use Rattle.server_history.proofs.healthy_turn.OneAnswer.{answer_kept}
use Rattle.server_history.proofs.state.DueRequests.{none_issued}
use Rattle.server_history.proofs.state.TurnAccesses.{bit_zero}
use Rattle.server_history.proofs.state.HistorySteps.{machine_on}
use Rattle.server_history.proofs.state.DeviceSteps.{devices_last}
use Rattle.server_history.proofs.plain_calls.Looks.{finding_kept, finding_silent, found_over, looking_kept, looking_silent}
pub use Rattle.server_history.proofs.plain_calls.Looks.{still_over}
use Rattle.server_history.proofs.healthy_turn.CallPart.{AddsTurn, none_last, serves}
use Rattle.server_history.proofs.state.SilentOperations.{silent_more}
use Rattle.server_history.proofs.state.PlacedSlots.{placed_other, placed_same}
use Rattle.server_history.proofs.state.TransferAccesses.{finding_serves}
use Rattle.server_history.proofs.plain_calls.IssueRounds.{AreIssued, any_append, devices_issue_none, dues, dues_carried, each_driven, each_issued, each_silent, last_on, or_none}
use Rattle.server_history.proofs.healthy_turn.AnswersAndIssues.{AreAnswered, answers_kept, answers_settings, each_answered, over_on, ready_on}
use Rattle.server_history.proofs.state.PortSlots.{CommandsAreOver, ready_found, served_by, serves_used}
use Rattle.server_history.proofs.state.FirstMembers.{nowhere, first_here}

-- accesses of a look, and of finding a transfer done, serve ports
pub looks_serve : PrerequisiteLaws → (port : Port) (old new : Device) → IsSimulated (IsPxisSstsOrOwnIsAccess port) AnySlotStates old new → IsSimulated WritesOnlyHbaIsPxIsCiOrSact AnySlotStates old new
looks_serve laws port old new followed = (laws.look_laws.fragments.is_of_wider_kind (Looking port) Servicing (λ uses. uses) (laws.look_laws.look_access_is_service_access port) (λ uses any. any) old new followed).is_simulated

pub finds_serve : PrerequisiteLaws → (port : Port) (mask done : ℕ) (old new : Device) → ReadsDone port mask done old new → IsSimulated WritesOnlyHbaIsPxIsCiOrSact AnySlotStates old new
finds_serve laws port mask done old new finds = (laws.look_laws.fragments.is_of_wider_kind (ReadingMasks port) Servicing (λ uses. uses) (finding_serves port) (λ uses any. any) old new (laws.mask_reading_is_simulated port mask done old new finds)).is_simulated

-- one stretch, and then another
serves_then : PrerequisiteLaws → (old mid new : Device) → IsSimulated WritesOnlyHbaIsPxIsCiOrSact AnySlotStates old mid → IsSimulated WritesOnlyHbaIsPxIsCiOrSact AnySlotStates mid new → IsSimulated WritesOnlyHbaIsPxIsCiOrSact AnySlotStates old new
serves_then laws old mid new a b = (laws.look_laws.fragments.fragments_join Servicing Servicing (λ uses. uses) (λ uses. uses) (λ access is. is) (λ uses any. any) old mid new a b).is_simulated

-- answers issue nothing
pub answers_issue_none : (id : RequestId) (ended : List Pending) → list_any (issues_id id) (ok_answers_newest_first ended) ≡ false
answers_issue_none id [] = refl
answers_issue_none id (e ∷ ended) = any_append (issues_id id) (ok_answers_newest_first ended) (Answer e Ok ∷ []) ∙ ap (λ (b : Bool). b || false) (answers_issue_none id ended)

-- the steps of a stretch in which nobody is answered
pub followed_steps : PrerequisiteLaws → (s : ServerState) (new : Device) → IsSimulated WritesOnlyHbaIsPxIsCiOrSact AnySlotStates s.device new → (m : Machine) → IsReachable m → MachineRelation s m
    → (steps : List Step) × AllEnabled m steps × MachineRelation (record s { device = new }) (after m steps) × TapeBacksSteps s.device new m steps × AllByDevice steps
followed_steps laws s new followed m reached is =
    let x = (followed_adds laws followed is.uses is.awaiting_disposition tt).simulates m reached is.driver_relation in
    (x.0, x.1, machine_on laws s new m x.0 is x.3.all_steps_are_by_device x.2, x.3.is_backed, x.3.all_steps_are_by_device)

nobody_answered : PrerequisiteLaws → (s : ServerState) (new : Device) (port : Port) → InvariantWithNoneDue s → state_of (probe_result_of s.probe_results port.0) ≡ ReadyState → (turn : PollsInTurnWithoutEvent port (slots_at s.slots port.0) [] s.device new) → IsSimulated WritesOnlyHbaIsPxIsCiOrSact AnySlotStates s.device new
    → ((q : ℕ) → state_of (probe_result_of s.probe_results q) ≢ Dead → GainsNoMove q ReadLog s.device new)
    → (turn.look ≡ NoEvent → (slot : ℕ) (used : SlotUse) → slot < 32 → used_for s.slots port.0 slot ≡ Some used → (s.device.port port.0).ci slot ≡ false → (s.device.port port.0).sact slot ≡ false → ⊥)
    → ServicesPort port [] s (record s { device = new })
nobody_answered laws s new port settled ready turn followed silent never =
    serves laws port [] s (record s { device = new }) settled ready turn (inl (refl, refl))
    (λ m reached is.
    let x = followed_steps laws s new followed m reached is in
    record {
      steps = x.0;
      may = x.1;
      stands = x.2;
      backed = x.3;
      answers = record {
        requests = [];
        replies_are = refl;
        ordered = λ i j d lt below. absurd (omega (arith, lt, below));
        ended = [];
        each_has_ended = tt;
        later = [];
        before = x.0;
        steps_are = refl;
        device_steps_come_first = x.4;
        others_come_last = tt;
      };
      last = devices_last x.0 x.4;
      issues = none_issued (record s { device = new }) (after m x.0) x.2 x.0 (λ id. devices_issue_none id x.0 x.4) (mode_in s port) port (settled.none_is_due port);
    })
    (λ calm slot used small its ci sact. absurd (never calm slot used small its ci sact))
    silent

-- ---- bits that are clear

-- a command that runs has one of the two bits
never_both : (started queued ci sact : Bool) → started ≡ true → ci ≡ started && not queued → sact ≡ started && queued → ci ≡ false → sact ≡ false → ⊥
never_both false queued ci sact on a b c d = false≢true on
never_both true true ci sact on a b c d = false≢true (sym d ∙ b)
never_both true false ci sact on a b c d = false≢true (sym c ∙ a)

module _ (s : ServerState) (port : Port) (k : InCallInvariant s) (ready : state_of (probe_result_of s.probe_results port.0) ≡ ReadyState) (slot : ℕ) where
  -- where both bits of what is issued are clear, its command is over
  clear_over : (used : SlotUse) → used_for s.slots port.0 slot ≡ Some used → (s.device.port port.0).ci slot ≡ false → (s.device.port port.0).sact slot ≡ false → SlotHasNoCommand (s.device.port port.0) slot
  clear_over used its ci sact = by x.stage
    where
      found : (port.0 < 4) × ((info : DiskInfo) × (probe_result_of s.probe_results port.0 ≡ Ready info))
      found = ready_found s port.0 k ready

      x : ServesRequest k.machine s.device.memory (s.device.port port.0) port.0 slot used.id
      x = served_by s k.machine port.0 slot k.machine_relation used.id (serves_used s k.machine port.0 k.machine_relation ready slot used its)

      by : IsInSomeStage s.device.memory (s.device.port port.0) port.0 slot x.pending x.command x.places → SlotHasNoCommand (s.device.port port.0) slot
      by (inl w) = absurd (false≢true (sym ci ∙ w.issued))
      by (inr (inl t)) = absurd (never_both (s.device.port port.0).st (is_queued x.command.operation) _ _ ((k.port_invariant port.0 found.0).ready_engine_runs ready).st_is_set t.ci_is_set_iff_st_and_plain t.sact ci sact)
      by (inr (inr (inl e))) = record { is_not_issued = e.is_not_issued; is_not_taken = e.is_not_taken }
      by (inr (inr (inr d))) = record { is_not_issued = d.is_not_issued; is_not_taken = d.is_not_taken }

  -- and they are clear after a look
  still_clear : PrerequisiteLaws → (seen : Device) → IsDrivenBy (IsPxisSstsOrOwnIsAccess port) s.device seen → (used : SlotUse) → used_for s.slots port.0 slot ≡ Some used → (s.device.port port.0).ci slot ≡ false
      → (s.device.port port.0).sact slot ≡ false → ((seen.port port.0).ci slot ≡ false) × ((seen.port port.0).sact slot ≡ false)
  still_clear laws seen driven used its ci sact = (
    (still_over laws port slot s.device seen driven (clear_over used its ci sact)).is_not_issued,
    laws.look_laws.look_keeps_sact_clear port port.0 slot s.device seen driven sact,
  )

-- ---- who is told

same_some : {X : Type 0} {a b : X} → Some a ≡ Some b → a ≡ b
same_some is = cc

-- an answer that frees a slot, or leaves it
module _ (port : Port) (e : BookEntry) (old mid : ServerState) (one : AnswersOne port e old mid) (k : InCallInvariant old) (low : port.0 < 4) where
  in_list : port.0 < length old.slots
  in_list = let f = k.slots_are_of_four_ports in omega (arith, low, f)

  in_places : one.slot < length (slots_at old.slots port.0).slot_uses
  in_places = let p = (k.slots_invariant port.0 low).has_32_slots in let small = one.slot_is_below_32 in omega (arith, p, small)

  slots_are : mid.slots ≡ with_slot old.slots port.0 one.slot None
  slots_are = ap (λ (n : ServerState). n.slots) one.server_is

  -- what another slot is used for
  left_used : (slot : ℕ) → slot ≢ one.slot → used_for mid.slots port.0 slot ≡ used_for old.slots port.0 slot
  left_used slot other = ap (λ (list : List PortSlots). used_for list port.0 slot) slots_are ∙ placed_other old.slots port.0 one.slot None in_list in_places port.0 slot (λ _ same. other same)

  now_free : used_for mid.slots port.0 one.slot ≡ None
  now_free = ap (λ (list : List PortSlots). used_for list port.0 one.slot) slots_are ∙ placed_same old.slots port.0 one.slot None in_list in_places

module _ (laws : PrerequisiteLaws) (port : Port) (low : port.0 < 4) (done : ℕ) where
  -- each slot that was found done, and is free in the end, has its request among these
  done_told : (requests : List BookEntry) (old new : ServerState) → InCallInvariant old → state_of (probe_result_of old.probe_results port.0) ≡ ReadyState → CommandsAreOver port done old.device → AnswersEach port done requests old new
      → ((slot : ℕ) → slot < 32 → bit done slot ≡ true → used_for new.slots port.0 slot ≡ None) → (slot : ℕ) (used : SlotUse) → slot < 32 → bit done slot ≡ true → used_for old.slots port.0 slot ≡ Some used
      → (e : BookEntry) × Contains requests e × (e.request.id ≡ used.id)
  done_told [] old new k ready over none free slot used small is its =
      let z : None ≡ Some used = sym (free slot small is) ∙ ap (λ (n : ServerState). used_for n.slots port.0 slot) none ∙ its in absurd cc
  done_told (e ∷ requests) old new k ready over (mid, one, clear, more) free slot used small is its = ⊎_elim
      (λ (same : slot ≡ one.slot).
      let one_is : Some used ≡ Some one.used = sym its ∙ ap (used_for old.slots port.0) same ∙ one.slot_use_is in
      (e, first_here e requests, sym one.id_is ∙ sym (ap (λ (u : SlotUse). u.id) (same_some one_is))))
      (λ (other : slot ≢ one.slot).
      let rest = done_told requests mid new (answer_kept laws old mid port e k ready one (over one.slot one.slot_is_below_32 clear)) (ready_on laws port done e old mid one ready) (over_on laws port done e old mid one over) more free
      slot used small is (left_used port e old mid one k low slot other ∙ its) in
      (rest.0, contains_there e requests rest.0 rest.1, rest.2))
      (cases_eq slot one.slot)

  -- and each of these has a slot that was found done
  told_done : (requests : List BookEntry) (old new : ServerState) → InCallInvariant old → state_of (probe_result_of old.probe_results port.0) ≡ ReadyState → CommandsAreOver port done old.device → AnswersEach port done requests old new
      → (e : BookEntry) → Contains requests e → (slot : ℕ) × (slot < 32) × (bit done slot ≡ true) × ((used : SlotUse) × (used_for old.slots port.0 slot ≡ Some used) × (used.id ≡ e.request.id))
  told_done [] old new k ready over none e here = absurd (nowhere e here)
  told_done (first ∷ requests) old new k ready over (mid, one, clear, more) e here = ⊎_elim
      (λ (same : e ≡ first). (one.slot, one.slot_is_below_32, clear, (one.used, one.slot_use_is, one.id_is ∙ ap (λ (x : BookEntry). x.request.id) (sym same))))
      (λ (there : Contains requests e).
      let rest = told_done requests mid new (answer_kept laws old mid port first k ready one (over one.slot one.slot_is_below_32 clear)) (ready_on laws port done first old mid one ready) (over_on laws port done first old mid one over) more e there in
      ⊎_elim
      (λ (same : rest.0 ≡ one.slot). let z : None ≡ Some rest.3.0 = sym (now_free port first old mid one k low) ∙ ap (used_for mid.slots port.0) (sym same) ∙ rest.3.1 in absurd cc)
      (λ (other : rest.0 ≢ one.slot). (rest.0, rest.1, rest.2, (rest.3.0, sym (left_used port first old mid one k low rest.0 other) ∙ rest.3.1, rest.3.2)))
      (cases_eq rest.0 one.slot))
      (contains_cases first requests e here)

-- ---- the whole

module _ (s : ServerState) (seen : Device) (port : Port) (t : InvariantWithNoneDue s) (ready : state_of (probe_result_of s.probe_results port.0) ≡ ReadyState) (looks : IsSimulated (IsPxisSstsOrOwnIsAccess port) AnySlotStates s.device seen) where
  abbrev k : InCallInvariant s
  k = t.in_call_invariant

  low : port.0 < 4
  low = (ready_found s port.0 k ready).0

  -- a look brings no page of the log but on dead ports
  seen_silent : PrerequisiteLaws → (q : ℕ) → state_of (probe_result_of s.probe_results q) ≢ Dead → GainsNoMove q ReadLog s.device seen
  seen_silent laws q lives = looking_silent s seen port k laws looks q ReadLog refl (λ dead. lives (ap state_of dead))

  module _ (l : TakesEvent port NoEvent s.device seen) where
    -- no slot is used
    pub idle : PrerequisiteLaws → IsMaskOf (slots_at s.slots port.0) 0 → ServicesPort port [] s (record s { device = seen })
    idle laws its =
        nobody_answered laws s seen port t ready
        (record {
          look = NoEvent;
          device_after_look = seen;
          takes_event = l;
          look_is_no_event = refl;
          polls_used_slots = record { mask = 0; is_mask_of = its; none_used_reads_nothing = λ _. (refl, refl); polls_slots = λ some. absurd (some (λ slot small. bit_zero slot)) };
        })
        (looks_serve laws port s.device seen looks)
        (seen_silent laws)
        (λ calm slot used small is ci sact. false≢true (sym (bit_zero slot) ∙ its slot small ∙ ap is_used is))

    module _ (laws : PrerequisiteLaws) (mask : ℕ) (its : IsMaskOf (slots_at s.slots port.0) mask) (some : IsEmptyMask mask → ⊥) where
      -- a used slot is asked for
      asked : (slot : ℕ) (used : SlotUse) → slot < 32 → used_for s.slots port.0 slot ≡ Some used → bit mask slot ≡ true
      asked slot used small is = its slot small ∙ ap is_used is

      seen_kept : InCallInvariant (record s { device = seen })
      seen_kept = looking_kept s seen port k ready laws looks

      -- nor does finding
      found_silent : (new : Device) (done : ℕ) → ReadsDone port mask done seen new → (q : ℕ) → state_of (probe_result_of s.probe_results q) ≢ Dead → GainsNoMove q ReadLog s.device new
      found_silent new done reads q lives =
          silent_more q ReadLog s.device seen new (seen_silent laws q lives)
          (finding_silent (record s { device = seen }) new port seen_kept ready laws mask done reads q ReadLog refl (λ dead. lives (ap state_of dead)))

      -- none of what it has issued was found done
      pub unfinished : (new : Device) (done : ℕ) → ReadsDone port mask done seen new → FindsEachClearSlot port mask done seen → IsEmptyMask done → ServicesPort port [] s (record s { device = new })
      unfinished new done reads sees none =
          nobody_answered laws s new port t ready
          (record {
            look = NoEvent;
            device_after_look = seen;
            takes_event = l;
            look_is_no_event = refl;
            polls_used_slots = record {
              mask = mask;
              is_mask_of = its;
              none_used_reads_nothing = λ none. absurd (some none);
              polls_slots = λ _. record {
                done = done;
                device_after_read = new;
                reads = reads;
                answered_iff_done = λ slot used small is. ((λ found. absurd (false≢true (sym (none slot small) ∙ found))), (λ w. absurd (nowhere w.0 w.1)));
                none_done_answers_none = λ _. (refl, refl);
                only_issuing_follows = by_none (IsCommandIssueAccess port) new;
              };
            };
          })
          (serves_then laws s.device seen new (looks_serve laws port s.device seen looks) (finds_serve laws port mask done seen new reads))
          (found_silent new done reads)
          (λ calm slot used small is ci sact.
          let c = still_clear s port k ready slot laws seen looks.is_driven used is ci sact in
          false≢true (sym (none slot small) ∙ sees slot small (asked slot used small is) c.0 c.1))

      -- what was found done was answered
      module _ (new : ServerState) (found : Device) (done : ℕ) (replies : List Reply) (reads : ReadsDone port mask done seen found) (sees : FindsEachClearSlot port mask done seen) (was_done : IsEmptyMask done → ⊥)
          (a : AnswersDoneAndIssues port done replies (record s { device = found }) new) where
        abbrev from : ServerState
        from = record s { device = found }

        served : IsSimulated WritesOnlyHbaIsPxIsCiOrSact AnySlotStates s.device found
        served = serves_then laws s.device seen found (looks_serve laws port s.device seen looks) (finds_serve laws port mask done seen found reads)

        found_kept : InCallInvariant from
        found_kept = finding_kept (record s { device = seen }) found port seen_kept ready laws mask done reads

        over : CommandsAreOver port done found
        over = found_over (record s { device = seen }) found port seen_kept ready laws mask done reads its

        mid_kept : InCallInvariant a.server_after_answers
        mid_kept = answers_kept laws port done a.requests from a.server_after_answers found_kept ready over a.answers_each

        mid_device : a.server_after_answers.device ≡ found
        mid_device = ap (λ (n : ServerState). n.device) (answers_settings laws port done a.requests from a.server_after_answers a.answers_each)

        abbrev ids : List RequestId
        ids = due_ids (mode_in a.server_after_answers port) port (unanswered_of a.server_after_answers.book)

        -- it takes commands as it did
        mode_is : mode_in a.server_after_answers port ≡ mode_in s port
        mode_is = ap (λ (n : ServerState). mode_in n port) (answers_settings laws port done a.requests from a.server_after_answers a.answers_each)

        turn_adds : (m : Machine) → IsReachable m → MachineRelation s m → AddsTurn port replies s new m
        turn_adds m reached is = record {
          steps = z.steps ++ base;
          may = laws.steps_and_accesses.enabled_lists_join m z.steps base base_may z.may;
          stands = subst (MachineRelation new) (sym (laws.steps_and_accesses.after_joins m z.steps base)) z.stands;
          backed = laws.backed_parts_join s.device a.server_after_answers.device new.device m base z.steps base_backed z.backed;
          answers = record {
            requests = a.requests;
            replies_are = a.replies_are;
            ordered = a.ordered;
            ended = y.ended;
            each_has_ended = y.each;
            later = z.steps;
            before = x.0;
            steps_are = refl;
            device_steps_come_first = x.4;
            others_come_last = subst (λ (mode : QueueMode). AllByDeviceOrIssue mode port z.steps) mode_is z.only;
          };
          last = last_on (mode_in a.server_after_answers port) port z.steps base z.only z.last (none_last base none_in_base) (λ id late early. false≢true (sym (none_in_base id) ∙ early));
          issues = subst (λ (mode : QueueMode). IssuesDue mode (z.steps ++ base) (after m (z.steps ++ base)) port) mode_is (subst (λ (n : Machine). IssuesDue (mode_in a.server_after_answers port) (z.steps ++ base) n port) (sym (laws.steps_and_accesses.after_joins m z.steps base))
              (dues_carried laws (mode_in a.server_after_answers port) z.steps (z.steps ++ base) (after (after m base) z.steps) (after (after m base) z.steps) port refl
              (λ u here own. sym (any_append (issues_id u.id) z.steps base ∙ ap (λ (b : Bool). list_any (issues_id u.id) z.steps || b) (none_in_base u.id) ∙ or_none (list_any (issues_id u.id) z.steps)))
              (dues laws port a.server_after_answers new mid_kept a.issued (after m base) z port (λ ne. absurd (ne refl)))));
        }
          where
            x : (steps : List Step) × AllEnabled m steps × MachineRelation from (after m steps) × TapeBacksSteps s.device found m steps × AllByDevice steps
            x = followed_steps laws s found served m reached is

            reached_x : IsReachable (after m x.0)
            reached_x = laws.steps_and_accesses.reachable_stays_reachable m x.0 reached x.1

            y : AreAnswered port a.requests from a.server_after_answers (after m x.0)
            y = each_answered laws port done a.requests from a.server_after_answers found_kept ready over a.answers_each (after m x.0) reached_x x.2

            base : List Step
            base = ok_answers_newest_first y.ended ++ x.0

            base_is : after m base ≡ after (after m x.0) (ok_answers_newest_first y.ended)
            base_is = laws.steps_and_accesses.after_joins m (ok_answers_newest_first y.ended) x.0

            base_may : AllEnabled m base
            base_may = laws.steps_and_accesses.enabled_lists_join m (ok_answers_newest_first y.ended) x.0 x.1 y.may

            base_backed : TapeBacksSteps s.device a.server_after_answers.device m base
            base_backed = laws.backed_parts_join s.device found a.server_after_answers.device m x.0 (ok_answers_newest_first y.ended) x.3 y.backed

            none_in_base : (id : RequestId) → list_any (issues_id id) base ≡ false
            none_in_base id = any_append (issues_id id) (ok_answers_newest_first y.ended) x.0 ∙ ap (λ (b : Bool). b || list_any (issues_id id) x.0) (answers_issue_none id y.ended) ∙ devices_issue_none id x.0 x.4

            z : AreIssued port ids a.server_after_answers new (after m base)
            z = each_issued laws port ids a.server_after_answers new mid_kept a.issued (after m base) (laws.steps_and_accesses.reachable_stays_reachable m base reached base_may) (subst (MachineRelation a.server_after_answers) (sym base_is) y.stands)

        last_issues : IsDrivenBy (IsCommandIssueAccess port) found new.device
        last_issues = subst (λ (d : Device). IsDrivenBy (IsCommandIssueAccess port) d new.device) mid_device (each_driven laws port ids a.server_after_answers new a.issued)

        -- a request is told exactly if its slot was found done
        told_of : (e : BookEntry) → Contains a.requests e → IsAnsweredIn e.request.id replies
        told_of e here = (done_reply e, subst (λ (list : List Reply). Contains list (done_reply e)) (sym a.replies_are) (into_map done_reply a.requests e here), refl)

        exactly : (slot : ℕ) (used : SlotUse) → slot < 32 → used_for s.slots port.0 slot ≡ Some used → bit done slot ≡ true ↔ IsAnsweredIn used.id replies
        exactly slot used small is = (
          (λ found_done.
              let e = done_told laws port low done a.requests from a.server_after_answers found_kept ready over a.answers_each a.done_slots_are_free slot used small found_done is in
              let w = told_of e.0 e.1 in
              (w.0, w.1, w.2 ∙ e.2)),
          (λ w.
              let r = map_in done_reply a.requests w.0 (subst (λ (list : List Reply). Contains list w.0) a.replies_are w.1) in
              let d = told_done laws port low done a.requests from a.server_after_answers found_kept ready over a.answers_each r.0 r.1 in
              let same : d.0 ≡ slot = one_slot d.0 d.3.0 d.3.1 slot used is (d.3.2 ∙ sym (ap (λ (x : Reply). x.id) r.2) ∙ w.2) in
              subst (λ (n : ℕ). bit done n ≡ true) same d.2),
        )
          where
            -- a request has one slot
            one_slot : (a : ℕ) (x : SlotUse) → used_for s.slots port.0 a ≡ Some x → (b : ℕ) (y : SlotUse) → used_for s.slots port.0 b ≡ Some y → x.id ≡ y.id → a ≡ b
            one_slot a x ax b y by same =
                (k.machine_relation.driver_relation.state_relation.serve_distinct_requests port.0 a port.0 b x.id
                (serves_used s k.machine port.0 k.machine_relation ready a x ax) (serves_used s k.machine port.0 k.machine_relation ready b y by ∙ ap Serves (sym same))).1

        -- no page of the log comes in all that but on dead ports
        whole_silent : (q : ℕ) → state_of (probe_result_of s.probe_results q) ≢ Dead → GainsNoMove q ReadLog s.device new.device
        whole_silent q lives =
            silent_more q ReadLog s.device found new.device (found_silent found done reads q lives)
            (subst (λ (d : Device). GainsNoMove q ReadLog d new.device) mid_device
            (each_silent laws port ids a.server_after_answers new mid_kept a.issued q ReadLog refl (λ dead. lives (ap (λ (n : ServerState). state_of (probe_result_of n.probe_results q)) (sym (answers_settings laws port done a.requests from a.server_after_answers a.answers_each)) ∙ ap state_of dead))))

        pub finished : ServicesPort port replies s new
        finished =
            serves laws port replies s new t ready
            (record {
              look = NoEvent;
              device_after_look = seen;
              takes_event = l;
              look_is_no_event = refl;
              polls_used_slots = record {
                mask = mask;
                is_mask_of = its;
                none_used_reads_nothing = λ none. absurd (some none);
                polls_slots = λ _. record {
                  done = done;
                  device_after_read = found;
                  reads = reads;
                  answered_iff_done = exactly;
                  none_done_answers_none = λ none. absurd (was_done none);
                  only_issuing_follows = last_issues;
                };
              };
            })
            (inr (some, a))
            turn_adds
            (λ calm slot used small is ci sact.
            let c = still_clear s port k ready slot laws seen looks.is_driven used is ci sact in
            (exactly slot used small is).0 (sees slot small (asked slot used small is) c.0 c.1))
            whole_silent
