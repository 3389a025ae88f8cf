-- A turn in which a ready port is left as it was: what it has done of the port, as a call of its own.
use Rattle.std.proofs.Common.{◌&&◌, ℕ, ◌≡◌, ◌≢◌, ◌⊎◌, ◌<◌, not, Bool, true, false, List, [], ◌∷◌, ◌++◌, Some, None, refl, sym, ap, ◌∙◌, subst, inl, inr, ⊎_elim, arith}
use Rattle.std.specs.List.{Contains, list_any}
use Rattle.std.specs.Prelude.{◌↔◌}
use Rattle.std.proofs.lemmas.Bool.{and_from, and_parts, cases_eq, false≢true}
use Rattle.std.proofs.lemmas.List.Elements.{All-contains_itself, All-head, Contains-append_cases, Contains-append_left, Contains-append_right}
use Rattle.ata_types.specs.declared.Port.{Port}
use Rattle.ata_types.specs.declared.PortState.TheVariants.{Absent, Foreign, Ready as ReadyState, Unfit}
use Rattle.ata_types.specs.declared.request.Outcome.{Outcome}
use Rattle.ata_types.specs.declared.request.Outcome.TheVariants.{DeviceError, Ok}
use Rattle.ata_types.specs.declared.request.Reply.{Reply}
use Rattle.ata_types.specs.declared.request.RequestId.{RequestId}
use Rattle.hba_regs.specs.Bits.{bit}
use Rattle.hba_regs.specs.declared.reg.Reg.TheVariants.{Px}
use Rattle.hba_regs.specs.declared.reg.PortReg.TheVariants.{Ci, Sact}
use Rattle.adapter.specs.Access.{Reads}
use Rattle.adapter.specs.Device.{Device}
use Rattle.refinement.specs.Fragments.{TapeGrows, IsDrivenBy}
use Rattle.refinement.specs.Driver.{TapeBacksSteps}
use Rattle.refinement.specs.Slots.{IsEmptySlot, RelatesSlot, Serves, ServesRequest, IsInSomeStage, SlotState}
use Rattle.block_machine.specs.Events.{AllEnabled, AnswersOkWhatHadEnded, changes_disk}
use Rattle.block_machine.specs.Histories.{IsReachable}
use Rattle.block_machine.specs.Expected.{after}
use Rattle.block_machine.specs.Ports.{Evidence, IsStoppedOrStuck, SamePort}
use Rattle.block_machine.specs.State.{Pending, Machine}
use Rattle.block_machine.specs.Steps.{Step, Answer}
use Rattle.block_machine.specs.declared.due.QueueMode.{QueueMode}
use Rattle.server_history.proofs.state.ListMembers.{into_map, map_in}
use Rattle.driver_history.specs.EvidenceHandling.{ServicesReadyPort, tells_fault}
use Rattle.driver_history.specs.Evidence.{ShowsFailure, ShowedLinkChangeOrNoDeviceAndNoneCame}
use Rattle.driver_history.specs.Histories.{FindsDone, IsForeignOrUnfit, IsAnsweredOk, IsIssuedOn}
use Rattle.driver_history.specs.AccessTrace.{ReadsMasksBeforeCmdWrite}
use Rattle.host_boot.specs.TakeOver.{probe_result_of}
use Rattle.port_control.specs.PortEvents.{IsPxisSstsOrOwnIsAccess}
use Rattle.port_control.specs.declared.events.PortEvent.TheVariants.{LinkChanged, NoEvent}
use Rattle.slots.specs.declared.SlotUse.{SlotUse}
use Rattle.server_history.specs.Prerequisites.{PrerequisiteLaws}
use Rattle.server_history.specs.IssuingAndAnswering.{StepsAnswer, PollsSlots, HasEnded, PollsInTurnWithoutEvent, IsAnsweredIn, IsMaskOf, ok_answers_newest_first, done_reply, is_used}
use Rattle.server_history.proofs.any_turn.TurnSteps.{counts_none}
use Rattle.server_history.proofs.any_turn.UnusedSlotBits.{unused_clear}
use Rattle.server_history.specs.Turns.{FindsDoneInTurn, ServingReady, CorrespondsInServiceLosesNoErrorInRestart, joint_state_of, abstract_state_of}
use Rattle.server_history.specs.ServerState.{ServerState, InCallInvariant, MachineRelation, InvariantWithNoneDue, mode_in, ports_of, slots_at, state_of, used_for}
use Rattle.server_history.proofs.state.AnswerSteps.{answered_in, ended_stood, in_answered, may_parts, no_answer, no_answer_issuing}
use Rattle.server_history.proofs.state.TurnAccesses.{TurnList, look_does, look_list}
use Rattle.server_history.proofs.any_turn.ToldTrouble.{no_change, not_missing}
use Rattle.server_history.proofs.any_turn.HeededTrouble.{later_driven, never_failed, trouble_shown}
use Rattle.server_history.proofs.plain_calls.Looks.{both_clear}
use Rattle.server_history.proofs.state.TransferAccesses.{both_read}
use Rattle.server_history.proofs.state.SlotCommands.{one_said}
use Rattle.server_history.proofs.state.PortSlots.{HasSlot, free_unused, issued_has, not_true, ready_found, serves_used, still_booked, used_or_not}
use Rattle.server_history.proofs.any_turn.ShownDevice.{had_disk, shows_device}
use Rattle.server_history.proofs.state.CallEvidence.{no_evidence}
use Rattle.server_history.proofs.any_turn.ShownTrouble.{grows_over}
use Rattle.server_history.proofs.state.PairedLists.{at_left, at_right}
use Rattle.server_history.proofs.state.FirstMembers.{nowhere}

-- where each of the port's requests is answered Ok, no fault of it is told
tells_none : (q : Port) (steps : List Step) → ((e : Pending) (o : Outcome) → Contains steps (Answer e o) → o ≡ Ok) → list_any (tells_fault q) steps ≡ false
tells_none q [] told = refl
tells_none q (Answer e (DeviceError status error) ∷ steps) told =
    absurd (let z : DeviceError status error ≡ Ok = told e (DeviceError status error) (All-head (Contains (Answer e (DeviceError status error) ∷ steps)) (Answer e (DeviceError status error)) steps (All-contains_itself (Answer e (DeviceError status error) ∷ steps))) in cc)
tells_none q (step ∷ steps) told = tells_none q steps (λ x o here. told x o (Contains-append_right (step ∷ []) steps (Answer x o) here))

-- ---- a turn

module _ (laws : PrerequisiteLaws) (port : Port) (replies : List Reply) (old new : ServerState) (t : InvariantWithNoneDue old) (ready : state_of (probe_result_of old.probe_results port.0) ≡ ReadyState)
    (turn : PollsInTurnWithoutEvent port (slots_at old.slots port.0) replies old.device new.device) (list : TurnList port (slots_at old.slots port.0) replies old.device new.device turn)
    (same : SamePort (ports_of old) (ports_of new) port) (m : Machine) (reached : IsReachable m) (at : MachineRelation old m) (steps : List Step) (may : AllEnabled m steps)
    (b : StepsAnswer (mode_in old port) port replies steps)
    (answered : turn.look ≡ NoEvent → (slot : ℕ) (used : SlotUse) → slot < 32 → used_for old.slots port.0 slot ≡ Some used
    → (old.device.port port.0).ci slot ≡ false → (old.device.port port.0).sact slot ≡ false → IsAnsweredIn used.id replies) where
  abbrev kept : InCallInvariant old
  kept = t.in_call_invariant

  low : port.0 < 4
  low = (ready_found old port.0 kept ready).0

  -- no trouble is named
  abbrev its : Evidence
  its = no_evidence

  -- how the port takes commands
  abbrev takes : QueueMode
  takes = mode_in old port

  one_of : (e y : Pending) → Contains m.book e → Contains m.book y → e.request.id.0 ≡ y.request.id.0 → e ≡ y
  one_of e y here there is = laws.steps_and_accesses.an_id_is_one_request m reached e y here there is

  -- who is answered in the turn is one of these
  turn_ended : (e : Pending) (o : Outcome) → Contains steps (Answer e o) → Contains b.ended e × (o ≡ Ok)
  turn_ended e o here = ⊎_elim
      (λ later. absurd (no_answer_issuing takes port b.later b.others_come_last e o later))
      (λ rest. ⊎_elim
      (λ told. answered_in b.ended e o told)
      (λ early. absurd (no_answer b.before b.device_steps_come_first e o early))
      (Contains-append_cases (ok_answers_newest_first b.ended) b.before (Answer e o) rest))
      (Contains-append_cases b.later (ok_answers_newest_first b.ended ++ b.before) (Answer e o) (subst (λ (list : List Step). Contains list (Answer e o)) b.steps_are here))

  has_slot : (e : Pending) → IsIssuedOn port m e → HasSlot old port e.request.id
  has_slot e own = issued_has old m port at kept ready e own.is_in_book own.port_is own.issued

  -- one that had ended was issued
  ended_on : (e : Pending) → Contains m.book e → e.request.port ≡ port → e.ended ≡ true → IsIssuedOn port m e
  ended_on e there own ended = record { is_in_book = there; port_is = own; issued = laws.steps_and_accesses.ended_is_issued m e reached there ended }

  -- and its command's bits are clear
  ended_clear : (e : Pending) → (own : IsIssuedOn port m e) → e.ended ≡ true → ((old.device.port port.0).ci (has_slot e own).slot ≡ false) × ((old.device.port port.0).sact (has_slot e own).slot ≡ false)
  ended_clear e own ended =
      let h = has_slot e own in
      let slot : at.uses port.0 h.slot ≡ Serves e.request.id = serves_used old m port.0 at ready h.slot h.used h.used_is ∙ ap Serves h.id_is in
      let clear = laws.slots.ended_clear at.uses m old.device port h.slot e reached at.driver_relation.state_relation (inl (own.is_in_book, own.issued)) ended slot in
      (clear.0.over.is_not_issued, clear.0.sact_is_clear)

  early_may : AllEnabled m b.before × AllEnabled (after m b.before) (ok_answers_newest_first b.ended)
  early_may = may_parts laws m (ok_answers_newest_first b.ended) b.before (may_parts laws m b.later (ok_answers_newest_first b.ended ++ b.before) (subst (AllEnabled m) b.steps_are may)).0

  -- who is told is answered, and who is answered is told
  module _ (e : Pending) (own : IsIssuedOn port m e) where
    told_answered : IsAnsweredIn (has_slot e own).used.id replies → IsAnsweredOk e steps
    told_answered told =
        let r = map_in done_reply b.requests told.0 (subst (λ (list : List Reply). Contains list told.0) b.replies_are told.1) in
        let d = at_left (HasEnded port) b.requests b.ended b.each_has_ended r.0 r.1 in
        let id_is : d.0.request.id ≡ e.request.id = d.2.entry.id ∙ sym (ap (λ (y : Reply). y.id) r.2) ∙ told.2 ∙ (has_slot e own).id_is in
        let w = ended_stood laws (after m b.before) b.ended early_may.1 d.0 d.1 in
        let l = laws.steps_and_accesses.entry_is_found_in_earlier_book m.book (after m b.before).book d.0 (laws.steps_and_accesses.device_steps_spare_book m b.before b.device_steps_come_first).book w in
        let one : e ≡ l.0 = one_of e l.0 own.is_in_book l.1 (ap (λ (i : RequestId). i.0) (sym id_is ∙ ap (λ r. r.id) l.2.request)) in (
          d.0,
          l.2.request ∙ ap (λ (y : Pending). y.request) (sym one),
          subst (λ (steps : List Step). Contains steps (Answer d.0 Ok)) (sym b.steps_are)
              (Contains-append_right b.later (ok_answers_newest_first b.ended ++ b.before) (Answer d.0 Ok) (Contains-append_left (ok_answers_newest_first b.ended) b.before (Answer d.0 Ok) (in_answered b.ended d.0 d.1))),
        )

    answered_told : IsAnsweredOk e steps → IsAnsweredIn (has_slot e own).used.id replies
    answered_told ok =
        let r = at_right (HasEnded port) b.requests b.ended b.each_has_ended ok.0 (turn_ended ok.0 Ok ok.2).0 in (
          done_reply r.0,
          subst (λ (list : List Reply). Contains list (done_reply r.0)) (sym b.replies_are) (into_map done_reply b.requests r.0 r.1),
          sym r.2.entry.id ∙ ap (λ q. q.id) ok.1 ∙ sym (has_slot e own).id_is,
        )

  module _ (calm : turn.look ≡ NoEvent) where
    -- a request that had ended is told
    ended_told : (e : Pending) → (own : IsIssuedOn port m e) → e.ended ≡ true → IsAnsweredIn (has_slot e own).used.id replies
    ended_told e own ended =
        let h = has_slot e own in
        let clear = ended_clear e own ended in
        answered calm h.slot h.used h.small h.used_is clear.0 clear.1

    heeded : AnswersOkWhatHadEnded m steps port
    heeded e there own ended = let on = ended_on e there own ended in told_answered e on (ended_told e on ended)

    -- ---- what is found done in it

    module _ (e : Pending) (leads : IsIssuedOn port m e) where
      read : (mask : ℕ) × IsMaskOf (slots_at old.slots port.0) mask
          × ((c : PollsSlots port (slots_at old.slots port.0) mask replies turn.device_after_look new.device) × ReadsMasksBeforeCmdWrite port c.reads.issued c.reads.active list.driven.accesses)
      read = let h = has_slot e leads in list.masks calm (h.slot, h.small, ap is_used h.used_is)

      abbrev k : PollsSlots port (slots_at old.slots port.0) read.0 replies turn.device_after_look new.device
      k = read.2.0

      looks : IsDrivenBy (IsPxisSstsOrOwnIsAccess port) old.device turn.device_after_look
      looks = laws.look_laws.look_is_driven_by_its_accesses port turn.look old.device turn.device_after_look turn.takes_event

      masks_read : (mid : Device) × Reads (Px port Ci) k.reads.issued turn.device_after_look mid × Reads (Px port Sact) k.reads.active mid k.device_after_read
      masks_read = both_read port read.0 k.done turn.device_after_look k.device_after_read k.reads

      abbrev AreClear : ℕ → Type 0
      AreClear slot = (bit k.reads.issued slot ≡ false) × (bit k.reads.active slot ≡ false)

      -- a request's slot tells whether it was answered
      module _ (other : Pending) (own : IsIssuedOn port m other) where
        abbrev h : HasSlot old port other.request.id
        h = has_slot other own

        asked : bit read.0 h.slot ≡ true
        asked = read.1 h.slot h.small ∙ ap is_used h.used_is

        tells : bit k.done h.slot ≡ (not (bit k.reads.issued h.slot) && not (bit k.reads.active h.slot))
        tells = k.reads.done_is h.slot h.small ∙ ap (λ (y : Bool). y && not (bit k.reads.issued h.slot) && not (bit k.reads.active h.slot)) asked

        at_slot : IsAnsweredOk other steps ↔ AreClear h.slot
        at_slot = (
          (λ ok.
              let done = (k.answered_iff_done h.slot h.used h.small h.used_is).1 (answered_told other own ok) in
              let both = and_parts (not (bit k.reads.issued h.slot)) (not (bit k.reads.active h.slot)) (sym tells ∙ done) in
              (not_true (bit k.reads.issued h.slot) both.0, not_true (bit k.reads.active h.slot) both.1)),
          (λ clear.
              told_answered other own ((k.answered_iff_done h.slot h.used h.small h.used_is).0
              (tells ∙ and_from (not (bit k.reads.issued h.slot)) (not (bit k.reads.active h.slot)) (ap not clear.0) (ap not clear.1)))),
        )

        -- bytes of another slot may say its command still: then it has ended, and that slot isn't used
        module _ (slot : ℕ) (apart : slot ≢ h.slot) (says : ServesRequest m old.device.memory (old.device.port port.0) port.0 slot other.request.id) where
          unused : used_for old.slots port.0 slot ≡ None
          unused = ⊎_elim
              (λ (y : (u : SlotUse) × (used_for old.slots port.0 slot ≡ Some u)).
              let same : other.request.id ≡ y.0.id = one_said laws old kept m at port.0 slot y.0 other.request.id ready y.1 says in
              let there = serves_used old m port.0 at ready slot y.0 y.1 ∙ ap Serves (sym same) in
              let here = serves_used old m port.0 at ready h.slot h.used h.used_is ∙ ap Serves h.id_is in
              absurd (apart (at.driver_relation.state_relation.serve_distinct_requests port.0 slot port.0 h.slot other.request.id there here).1))
              (λ none. none)
              (used_or_not (used_for old.slots port.0 slot))

          free : IsEmptySlot (old.device.port port.0) slot
          free = subst (λ (u : SlotState). RelatesSlot m old.device.memory old.device.tape (old.device.port port.0) port.0 slot u) (free_unused old m port.0 at ready slot unused) (at.driver_relation.state_relation.relates_slots port.0 slot)

          has_ended : other.ended ≡ true
          has_ended = ap (λ (y : Pending). y.ended) (sym its_pending) ∙ by says.stage
            where
              its_pending : says.pending ≡ other
              its_pending = one_of says.pending other (still_booked old m port.0 at ready says.pending says.may_still_move says.port_is).0 own.is_in_book (ap (λ (i : RequestId). i.0) says.id_is)

              by : IsInSomeStage old.device.memory (old.device.port port.0) port.0 slot says.pending says.command says.places → says.pending.ended ≡ true
              by (inl waits) = absurd (false≢true (sym free.is_not_issued ∙ waits.issued))
              by (inr (inl taken)) = let z : None ≡ Some taken.command = sym free.is_not_taken ∙ taken.taken in absurd cc
              by (inr (inr (inl ended))) = ended.ended
              by (inr (inr (inr dropped))) = absurd (false≢true (sym dropped.st_is_clear ∙ ((kept.port_invariant port.0 low).ready_engine_runs ready).st_is_set))

          clear_there : AreClear slot
          clear_there = both_clear laws port slot k.reads.issued k.reads.active old.device turn.device_after_look masks_read.0 k.device_after_read says.list_is_in_place.slot_below looks masks_read.1 masks_read.2
              (record { is_not_issued = free.is_not_issued; is_not_taken = free.is_not_taken }) free.unarmed

          apart_too : IsAnsweredOk other steps ↔ AreClear slot
          apart_too = (
            (λ _. clear_there),
            (λ _. told_answered other own (ended_told other own has_ended)),
          )

      finding : FindsDone port list.driven.accesses (joint_state_of old m) steps
      finding = record {
        ci = k.reads.issued;
        sact = k.reads.active;
        reads = read.2.1;
        answered_iff_done = λ other slot own says. ⊎_elim
            (λ (same : slot ≡ (has_slot other own).slot). subst (λ (i : ℕ). IsAnsweredOk other steps ↔ AreClear i) (sym same) (at_slot other own))
            (λ (apart : slot ≢ (has_slot other own).slot). apart_too other own slot apart says)
            (cases_eq slot (has_slot other own).slot);
      }

      found_by_masks : FindsDoneInTurn port list.driven.accesses old m steps
      unfolding finding
      found_by_masks = record { finds_done = finding; unused_slots_are_clear = λ slot small none. unused_clear laws old m port.0 at ready turn.device_after_look k.device_after_read looks read.0 k.done k.reads slot small none }

  -- ---- what is owed to it

  pub finds : (e : Pending) → IsIssuedOn port m e → FindsDoneInTurn port list.driven.accesses old m steps
  finds e own = found_by_masks turn.look_is_no_event e own

  undue : (old.device.port port.0).link_due ≡ false
  undue = ((kept.port_invariant port.0 low).ready_engine_runs ready).faults_are_recorded.no_link_is_due

  -- no failure was shown
  pub unfailing : ShowsFailure (old.device.port port.0) → ⊥
  unfailing = never_failed laws port (slots_at old.slots port.0) replies (joint_state_of old m) new.device turn kept.adapter_is_on turn.look_is_no_event

  not_lost : turn.look ≢ LinkChanged
  not_lost lost = let z : NoEvent ≡ LinkChanged = sym turn.look_is_no_event ∙ lost in cc

  later : TapeGrows turn.device_after_look new.device
  later = let over = later_driven laws port (slots_at old.slots port.0) replies (joint_state_of old m) new.device turn kept.adapter_is_on turn.look_is_no_event in grows_over laws over.accesses turn.device_after_look new.device over.all_are_done

  -- nor was a loss
  pub never_lost : ShowedLinkChangeOrNoDeviceAndNoneCame port old.device new.device → ⊥
  never_lost loss = ⊎_elim
      (no_change laws port turn.look old.device turn.device_after_look turn.takes_event kept.adapter_is_on not_lost)
      (λ (out : _ × _). not_missing laws port turn.look old.device turn.device_after_look turn.takes_event kept.adapter_is_on not_lost new.device later undue out.0 out.1)
      loss

  module _ (backed : TapeBacksSteps old.device new.device m steps) where
    uninterrupted : IsStoppedOrStuck its port → ⊥
    uninterrupted i = ⊎_elim (nowhere port) (nowhere port) i

    not_bad : IsForeignOrUnfit (ports_of old) port → ⊥
    not_bad (inl foreign) = let z : Foreign ≡ ReadyState = sym foreign ∙ ready in cc
    not_bad (inr (cause, unfit)) = let z : Unfit cause ≡ ReadyState = sym unfit ∙ ready in cc

    not_absent : (ports_of old).state port ≡ Absent → ⊥
    not_absent absent = let z : Absent ≡ ReadyState = sym absent ∙ ready in cc

    -- the look saw a device, so a disk was in when the turn began, or one came before the look
    had : (m.present port ≡ true) ⊎ (list_any (changes_disk port) steps ≡ true)
    had =
        let accesses = look_list port turn.takes_event.causes turn.takes_event.port_mask turn.takes_event.status in
        let does = look_does port turn.look old.device turn.device_after_look turn.takes_event in
        had_disk laws port old turn.device_after_look new.device m accesses does
        (laws.recovery.shown_disk_stays_in port.0 accesses old.device turn.device_after_look does ((kept.port_invariant port.0 low).ready_has_disk_if_det_3 ready) (shows_device laws port old.device turn.device_after_look turn.look turn.takes_event kept.adapter_is_on not_lost))
        at later steps backed

    serves_ready : ServicesReadyPort (abstract_state_of old m) its steps (record { machine = after m steps; ports = ports_of new }) port
    serves_ready = record {
      answers_ok_what_had_ended = heeded turn.look_is_no_event;
      link_change_leaves_none = λ gone. absurd (nowhere port gone);
      link_change_tells_alike = λ gone. absurd (nowhere port gone);
      trouble_stops_or_sticks = λ port_error. absurd (⊎_elim (nowhere port) (nowhere port) port_error);
      error_or_stop_leaves_no_old_issue = λ port_error. absurd (⊎_elim (nowhere port) (nowhere port) port_error);
      one_fault_at_most = let none = counts_none (tells_fault port) steps (tells_none port steps (λ e o here. (turn_ended e o here).1)) in omega (arith, none);
      fatal_tells_no_fault = λ here. absurd (nowhere port here);
      shown_disk_was_in_or_came = λ shows. had;
      is_left_alone_if_calm = inr (record { port_is_same = same; only_ok_is_told = λ e o here own. inl (turn_ended e o here).1; is_neither_stopped_nor_stuck = uninterrupted });
    }

    pub ties : CorrespondsInServiceLosesNoErrorInRestart ServingReady port replies list.driven.accesses old new m its steps
    ties = record {
      finds_done = λ is e own. finding turn.look_is_no_event e own;
      lone_plain_faults_are_told_unless_dead = λ alone. absurd (unfailing (inr alone.shows_only_tfes.tfes_is_set));
      probes_disk = λ served coming. record {
        absent_with_device_is_booted_dead_or_has_plug_event = λ absent det. absurd (not_absent absent);
        absent_gets_first_fis_or_dead_or_no_device = λ absent det fresh. absurd (not_absent absent);
        missing_disk_makes_absent_or_dead = λ bad. absurd (not_bad bad);
        changed_disk_is_booted_or_absent_or_dead = λ bad. absurd (not_bad bad);
      };
      boots_anew = (λ is port_error. absurd (⊎_elim (λ fatal. unfailing (inl fatal)) never_lost port_error), inl same);
      loses_no_error = trouble_shown laws port (slots_at old.slots port.0) replies (joint_state_of old m) new.device turn kept.adapter_is_on turn.look_is_no_event its (ports_of new);
      runs_well_anew = λ i. absurd (uninterrupted i);
      handles_evidence = λ is. serves_ready;
    }
