-- A turn that mends its port finds what is done, and answers what had ended.
use Rattle.std.proofs.Common.{ℕ, ◌≡◌, ◌≢◌, ◌<◌, ◌++◌, ◌&&◌, not, Bool, true, false, List, [], ◌∷◌, Some, None, refl, sym, ap, ◌∙◌, subst, inl, inr, arith, ⊎_elim, append_assoc}
use Rattle.std.specs.List.{Contains}
use Rattle.std.specs.Prelude.{◌↔◌}
use Rattle.std.proofs.lemmas.Bool.{and_from, and_parts, cases_eq}
use Rattle.std.proofs.lemmas.List.Elements.{Contains-append_cases, Contains-append_left, Contains-append_right}
use Rattle.ata_types.specs.declared.Port.{Port}
use Rattle.ata_types.specs.declared.PortState.TheVariants.{Ready as ReadyState}
use Rattle.ata_types.specs.declared.request.Outcome.TheVariants as outcome
use Rattle.ata_types.specs.declared.request.Reply.{Reply}
use Rattle.ata_types.specs.declared.request.RequestId.{RequestId}
use Rattle.hba_regs.specs.Bits.{bit}
use Rattle.hba_regs.specs.declared.reg.Reg.TheVariants.{Px}
use Rattle.hba_regs.specs.declared.reg.PortReg.TheVariants.{Ci, Sact}
use Rattle.adapter.specs.Access.{Access, Reads}
use Rattle.adapter.specs.Access.Access.{Reading}
use Rattle.adapter.specs.Device.{Device}
use Rattle.refinement.specs.Fragments.{AnySlotStates, IsSimulated}
use Rattle.refinement.specs.Slots.{Serves, ServesRequest}
use Rattle.block_machine.specs.Events.{AllEnabled, AnswersOkWhatHadEnded}
use Rattle.block_machine.specs.Histories.{IsReachable}
use Rattle.block_machine.specs.Expected.{after}
use Rattle.block_machine.specs.State.{Machine, Pending}
use Rattle.block_machine.specs.Steps.{Step, Answer}
use Rattle.server_history.proofs.state.ListMembers.{contains_cases, contains_there}
use Rattle.driver_history.specs.Histories.{FindsDone, IsAnsweredOk, IsIssuedOn}
use Rattle.driver_history.specs.AccessTrace.{ReadsMasksBeforeCmdWrite}
use Rattle.host_boot.specs.TakeOver.{probe_result_of}
use Rattle.port_control.specs.PortEvents.{IsPxisSstsOrOwnIsAccess}
use Rattle.request_queue.specs.BookEntries.{BookEntry}
use Rattle.request_queue.specs.Dispositions.{disposition_of}
use Rattle.request_queue.specs.BookRelation.{EntryRelation}
use Rattle.request_queue.specs.declared.disposition.Disposition.TheVariants.{Complete}
use Rattle.slots.specs.declared.SlotUse.{SlotUse}
use Rattle.server_history.specs.Prerequisites.{PrerequisiteLaws}
use Rattle.server_history.specs.ErrorHandling.{IsErrorHandled, HasResolved, HandlesPortError, requests_of}
use Rattle.server_history.specs.IssuingAndAnswering.{AnswersEach, HasEnded, ok_answers_newest_first, is_used}
use Rattle.server_history.specs.ServerState.{ServerState, InCallInvariant, MachineRelation, mode_in, state_of, used_for}
use Rattle.server_history.proofs.any_turn.UnusedSlotBits.{unused_clear}
use Rattle.server_history.specs.Turns.{FindsDoneInTurn, joint_state_of}
use Rattle.server_history.proofs.state.AnswerSteps.{answered_in, ended_stood, in_answered, may_parts, no_answer, no_answer_issuing}
use Rattle.server_history.proofs.healthy_turn.OneAnswer.{answer_kept}
use Rattle.server_history.proofs.plain_calls.IssueRounds.{not_true}
use Rattle.server_history.proofs.recovery_turn.DecidedSteps.{DecidesTurn}
use Rattle.server_history.proofs.state.SlotMasks.{has_ended, is_free}
use Rattle.server_history.proofs.plain_calls.Looks.{both_clear}
use Rattle.server_history.proofs.recovery_turn.TurnEvidence.{IsEvident, slots_were}
use Rattle.server_history.proofs.state.PlacedSlots.{placed_other}
use Rattle.server_history.proofs.state.TransferAccesses.{both_read}
use Rattle.server_history.proofs.dispositions.FateReasons.{Why, why}
use Rattle.server_history.proofs.recovery_turn.TurnParts.{evidence_by, until_issues}
use Rattle.server_history.proofs.healthy_turn.AnswersAndIssues.{over_on, ready_on}
use Rattle.server_history.proofs.state.PortSlots.{CommandsAreOver, HasSlot, issued_has, ready_found, serves_used}
use Rattle.server_history.proofs.recovery_turn.TurnStretches.{done_over, found_kept}
use Rattle.server_history.proofs.state.PairedLists.{at_left, at_right}
use Rattle.server_history.proofs.state.FirstMembers.{nowhere, first_here}

-- ---- slots whose requests were answered

module _ (laws : PrerequisiteLaws) (port : Port) (low : port.0 < 4) (done : ℕ) where
  -- of a request that was answered a slot was found done
  record HadSlot (s : ServerState) (id : RequestId) : Type 0 where
    slot : ℕ
    small : slot < 32
    used : SlotUse
    used_is : used_for s.slots port.0 slot ≡ Some used
    id_is : used.id ≡ id
    found : bit done slot ≡ true

  had_slot : (requests : List BookEntry) (old new : ServerState) → InCallInvariant old → state_of (probe_result_of old.probe_results port.0) ≡ ReadyState → CommandsAreOver port done old.device → AnswersEach port done requests old new
      → (request : BookEntry) → Contains requests request → HadSlot old request.request.id
  had_slot [] old new k ready over none request here = absurd (nowhere request here)
  had_slot (e ∷ requests) old new k ready over (mid, one, its, more) request here = ⊎_elim
      (λ (same : request ≡ e). record { slot = one.slot; small = one.slot_is_below_32; used = one.used; used_is = one.slot_use_is; id_is = one.id_is ∙ ap (λ (h : BookEntry). h.request.id) (sym same); found = its })
      (λ (there : Contains requests request).
      let x = had_slot requests mid new (answer_kept laws old mid port e k ready one (over one.slot one.slot_is_below_32 its)) (ready_on laws port done e old mid one ready) (over_on laws port done e old mid one over) more request there in
      record { slot = x.slot; small = x.small; used = x.used; used_is = slots_were laws port low done (e ∷ []) old mid k ready over (mid, one, its, refl) x.slot x.used x.used_is; id_is = x.id_is; found = x.found })
      (contains_cases e requests request here)

  -- and whose slot isn't used any more was answered
  was_told : (requests : List BookEntry) (old new : ServerState) → InCallInvariant old → state_of (probe_result_of old.probe_results port.0) ≡ ReadyState → CommandsAreOver port done old.device → AnswersEach port done requests old new
      → (slot : ℕ) (used : SlotUse) → used_for old.slots port.0 slot ≡ Some used → used_for new.slots port.0 slot ≡ None → (request : BookEntry) × Contains requests request × (request.request.id ≡ used.id)
  was_told [] old new k ready over none slot used is unused = let z : None ≡ Some used = sym unused ∙ ap (λ (n : ServerState). used_for n.slots port.0 slot) none ∙ is in absurd cc
  was_told (e ∷ requests) old new k ready over (mid, one, its, more) slot used is unused = ⊎_elim
      (λ (same : slot ≡ one.slot).
      let z : Some one.used ≡ Some used = sym one.slot_use_is ∙ ap (used_for old.slots port.0) (sym same) ∙ is in
      let u : one.used ≡ used = cc in
      (e, first_here e requests, sym one.id_is ∙ ap (λ (v : SlotUse). v.id) u))
      (λ (other : slot ≢ one.slot).
      let four = k.slots_are_of_four_ports in
      let places = (k.slots_invariant port.0 low).has_32_slots in
      let small = one.slot_is_below_32 in
      let still : used_for mid.slots port.0 slot ≡ Some used =
      ap (λ (n : ServerState). used_for n.slots port.0 slot) one.server_is
      ∙ placed_other old.slots port.0 one.slot None (omega (arith, four, low)) (omega (arith, places, small)) port.0 slot (λ _ same. other same) ∙ is in
      let x = was_told requests mid new (answer_kept laws old mid port e k ready one (over one.slot one.slot_is_below_32 its)) (ready_on laws port done e old mid one ready) (over_on laws port done e old mid one over) more slot used still unused in
      (x.0, contains_there e requests x.0 x.1, x.2))
      (cases_eq slot one.slot)

-- ---- the whole

module _ (laws : PrerequisiteLaws) (port : Port) (replies : List Reply) (old new : ServerState) (k : InCallInvariant old) (ready : state_of (probe_result_of old.probe_results port.0) ≡ ReadyState) (r : HandlesPortError port replies old new)
    (looks : IsSimulated (IsPxisSstsOrOwnIsAccess port) AnySlotStates old.device r.has_resolved.error_handled.device_after_look) (kept : InCallInvariant r.server_after_resolving) (evident : IsEvident port replies old new r) (m : Machine) (reached : IsReachable m) (is : MachineRelation old m)
    (d : DecidesTurn port replies old new r (evidence_by r.has_resolved) m) where
  abbrev a : HasResolved port r.later_replies old r.server_after_resolving
  a = r.has_resolved

  abbrev x : IsErrorHandled port old a.server_after_handling a.device_after_handling
  x = a.error_handled

  abbrev from : ServerState
  from = record old { device = x.device_after_read }

  low : port.0 < 4
  low = (ready_found old port.0 k ready).0

  one_of : (e y : Pending) → Contains m.book e → Contains m.book y → e.request.id.0 ≡ y.request.id.0 → e ≡ y
  one_of e y here there same = laws.steps_and_accesses.an_id_is_one_request m reached e y here there same

  -- who is answered Ok had ended: it is no fate
  answered_ended : (e : Pending) → Contains d.steps (Answer e outcome.Ok) → Contains d.dispositions.ended e
  answered_ended e here = ⊎_elim
      (λ late. absurd (no_answer_issuing (mode_in r.server_after_resolving port) port d.issuing.steps d.issuing.only e outcome.Ok late))
      (λ rest. ⊎_elim
      (λ disposition. absurd (no_fate disposition))
      (λ rest. ⊎_elim
      (λ mid. absurd (no_answer d.dispositions.middle d.dispositions.middle_only e outcome.Ok mid))
      (λ rest. ⊎_elim (λ ok. (answered_in d.dispositions.ended e outcome.Ok ok).0) (λ early. absurd (no_answer d.dispositions.first d.dispositions.first_only e outcome.Ok early))
      (Contains-append_cases (ok_answers_newest_first d.dispositions.ended) d.dispositions.first (Answer e outcome.Ok) rest))
      (Contains-append_cases d.dispositions.middle (ok_answers_newest_first d.dispositions.ended ++ d.dispositions.first) (Answer e outcome.Ok) rest))
      (Contains-append_cases d.dispositions.dispositions (d.dispositions.middle ++ (ok_answers_newest_first d.dispositions.ended ++ d.dispositions.first)) (Answer e outcome.Ok) rest))
      (Contains-append_cases d.issuing.steps (until_issues d.dispositions) (Answer e outcome.Ok) (subst (λ (steps : List Step). Contains steps (Answer e outcome.Ok)) d.steps_are here))
    where
      no_fate : Contains d.dispositions.dispositions (Answer e outcome.Ok) → ⊥
      no_fate disposition = by (why a.failed a.revalidation w.0.request outcome.Ok w.3)
        where
          w : (request : BookEntry) × Contains (requests_of port a.server_after_handling.book) request × EntryRelation request e × (disposition_of a.failed a.revalidation request.request ≡ Complete outcome.Ok)
          w = d.dispositions.answered e outcome.Ok disposition

          by : Why a.failed a.revalidation w.0.request outcome.Ok → ⊥
          by (inl y) = let z : outcome.Ok ≡ outcome.DeviceError y.0.status y.0.error = y.3 in absurd cc
          by (inr (inl y)) = let z : outcome.Ok ≡ outcome.Aborted = y.3 in absurd cc
          by (inr (inr (inl y))) = let z : outcome.Ok ≡ outcome.Unplugged = y.1 in absurd cc
          by (inr (inr (inr (inl y)))) = let z : outcome.Ok ≡ outcome.PortDead = y.1 in absurd cc
          by (inr (inr (inr (inr y)))) = let z : outcome.Ok ≡ outcome.Revoked = y.3 in absurd cc

  ended_answered : (e : Pending) → Contains d.dispositions.ended e → Contains d.steps (Answer e outcome.Ok)
  ended_answered e here = subst (λ (steps : List Step). Contains steps (Answer e outcome.Ok)) (sym d.steps_are)
      (Contains-append_right d.issuing.steps (until_issues d.dispositions) (Answer e outcome.Ok)
      (Contains-append_right d.dispositions.dispositions (d.dispositions.middle ++ (ok_answers_newest_first d.dispositions.ended ++ d.dispositions.first)) (Answer e outcome.Ok)
      (Contains-append_right d.dispositions.middle (ok_answers_newest_first d.dispositions.ended ++ d.dispositions.first) (Answer e outcome.Ok)
      (Contains-append_left (ok_answers_newest_first d.dispositions.ended) d.dispositions.first (Answer e outcome.Ok) (in_answered d.dispositions.ended e here)))))

  early_may : AllEnabled m d.dispositions.first × AllEnabled (after m d.dispositions.first) (ok_answers_newest_first d.dispositions.ended)
  early_may = may_parts laws m (ok_answers_newest_first d.dispositions.ended) d.dispositions.first
      (may_parts laws m d.dispositions.middle (ok_answers_newest_first d.dispositions.ended ++ d.dispositions.first) (may_parts laws m d.dispositions.dispositions (d.dispositions.middle ++ (ok_answers_newest_first d.dispositions.ended ++ d.dispositions.first)) d.dispositions.may).0).0

  -- the masks that were read
  masks_read : (read : Device) × Reads (Px port Ci) x.reads_done.issued x.device_after_look read × Reads (Px port Sact) x.reads_done.active read x.device_after_read
  masks_read = both_read port x.mask x.done x.device_after_look x.device_after_read x.reads_done

  abbrev AreClear : ℕ → Type 0
  AreClear slot = (bit x.reads_done.issued slot ≡ false) × (bit x.reads_done.active slot ≡ false)

  -- a request that was issued has a slot
  module _ (e : Pending) (own : IsIssuedOn port m e) where
    h : HasSlot old port e.request.id
    h = issued_has old m port is k ready e own.is_in_book own.port_is own.issued

    tells : bit x.done h.slot ≡ (not (bit x.reads_done.issued h.slot) && not (bit x.reads_done.active h.slot))
    tells = x.reads_done.done_is h.slot h.small ∙ ap (λ (y : Bool). y && not (bit x.reads_done.issued h.slot) && not (bit x.reads_done.active h.slot)) (x.is_mask_of h.slot h.small ∙ ap is_used h.used_is)

    -- the slot of a request that was answered was found done
    then_clear : IsAnsweredOk e d.steps → AreClear h.slot
    then_clear ok =
        let w = at_right (HasEnded port) x.requests d.dispositions.ended d.dispositions.each ok.0 (answered_ended ok.0 ok.2) in
        let y = had_slot laws port low x.done x.requests from a.server_after_handling (found_kept laws port replies old new k ready r looks kept) ready (done_over laws port replies old new k ready r looks kept) x.answers_each w.0 w.1 in
        let id_is : y.used.id ≡ e.request.id = y.id_is ∙ sym w.2.entry.id ∙ ap (λ q. q.id) ok.1 in
        let there = serves_used old m port.0 is ready y.slot y.used y.used_is ∙ ap Serves id_is in
        let here = serves_used old m port.0 is ready h.slot h.used h.used_is ∙ ap Serves h.id_is in
        let same : y.slot ≡ h.slot = (is.driver_relation.state_relation.serve_distinct_requests port.0 y.slot port.0 h.slot e.request.id there here).1 in
        let both = and_parts (not (bit x.reads_done.issued h.slot)) (not (bit x.reads_done.active h.slot)) (sym tells ∙ ap (bit x.done) (sym same) ∙ y.found) in
        (not_true (bit x.reads_done.issued h.slot) both.0, not_true (bit x.reads_done.active h.slot) both.1)

    -- and of one whose slot was, it was answered
    then_told : AreClear h.slot → IsAnsweredOk e d.steps
    then_told clear =
        let done = tells ∙ and_from (not (bit x.reads_done.issued h.slot)) (not (bit x.reads_done.active h.slot)) (ap not clear.0) (ap not clear.1) in
        let w = was_told laws port low x.done x.requests from a.server_after_handling (found_kept laws port replies old new k ready r looks kept) ready (done_over laws port replies old new k ready r looks kept) x.answers_each h.slot h.used h.used_is (x.done_slots_are_free h.slot h.small done) in
        let y = at_left (HasEnded port) x.requests d.dispositions.ended d.dispositions.each w.0 w.1 in
        let l = laws.steps_and_accesses.entry_is_found_in_earlier_book m.book (after m d.dispositions.first).book y.0 (laws.steps_and_accesses.device_steps_spare_book m d.dispositions.first d.dispositions.first_only).book (ended_stood laws (after m d.dispositions.first) d.dispositions.ended early_may.1 y.0 y.1) in
        let id_is : e.request.id ≡ y.0.request.id = sym h.id_is ∙ sym w.2 ∙ sym y.2.entry.id in
        let one : e ≡ l.0 = one_of e l.0 own.is_in_book l.1 (ap (λ (i : RequestId). i.0) (id_is ∙ ap (λ q. q.id) l.2.request)) in
        (y.0, l.2.request ∙ ap (λ (q : Pending). q.request) (sym one), ended_answered y.0 y.1)

    -- one that had ended is answered
    ended_told : e.ended ≡ true → IsAnsweredOk e d.steps
    ended_told ended =
        let serves : is.uses port.0 h.slot ≡ Serves e.request.id = serves_used old m port.0 is ready h.slot h.used h.used_is ∙ ap Serves h.id_is in
        let clear = laws.slots.ended_clear is.uses m old.device port h.slot e reached is.driver_relation.state_relation (inl (own.is_in_book, own.issued)) ended serves in
        then_told (both_clear laws port h.slot x.reads_done.issued x.reads_done.active old.device x.device_after_look masks_read.0 x.device_after_read h.small looks.is_driven masks_read.1 masks_read.2 clear.0.over clear.0.sact_is_clear)

    module _ (slot : ℕ) (says : ServesRequest m old.device.memory (old.device.port port.0) port.0 slot e.request.id) where
      elsewhere : slot ≢ h.slot → IsAnsweredOk e d.steps ↔ AreClear slot
      elsewhere apart =
          let free = is_free laws old k m reached is port.0 ready e own.is_in_book h.slot h.used h.used_is h.id_is slot apart says in (
            (λ _. both_clear laws port slot x.reads_done.issued x.reads_done.active old.device x.device_after_look masks_read.0 x.device_after_read says.list_is_in_place.slot_below looks.is_driven masks_read.1 masks_read.2 (record { is_not_issued = free.is_not_issued; is_not_taken = free.is_not_taken }) free.unarmed),
            (λ _. ended_told (has_ended laws old k m reached is port.0 ready e own.is_in_book h.slot h.used h.used_is h.id_is slot apart says)),
          )

      exact : IsAnsweredOk e d.steps ↔ AreClear slot
      exact = ⊎_elim
          (λ (same : slot ≡ h.slot). subst (λ (i : ℕ). IsAnsweredOk e d.steps ↔ AreClear i) (sym same) (then_clear, then_told))
          elsewhere
          (cases_eq slot h.slot)

  abbrev there : ReadsMasksBeforeCmdWrite port x.reads_done.issued x.reads_done.active evident.parts.early.accesses
  there = evident.parts.masks

  abbrev rest : List Access
  rest = x.recovers_or_stops.accesses ++ evident.parts.late.accesses

  masks : ReadsMasksBeforeCmdWrite port x.reads_done.issued x.reads_done.active evident.accesses
  masks = record {
    before = there.before;
    later = there.later ++ rest;
    accesses_are_split = evident.accesses_are ∙ ap (λ (list : List Access). list ++ rest) there.accesses_are_split
        ∙ append_assoc there.before (Reading (Px port Ci) x.reads_done.issued ∷ Reading (Px port Sact) x.reads_done.active ∷ there.later) rest;
    cmd_is_unwritten_before = there.cmd_is_unwritten_before;
  }

  -- what is found done is answered, and nothing else
  pub finding : FindsDone port evident.accesses (joint_state_of old m) d.steps
  finding = record { ci = x.reads_done.issued; sact = x.reads_done.active; reads = masks; answered_iff_done = λ e slot own says. exact e own slot says }

  -- and the masks show the bits of a slot that isn't used clear
  pub found_by_masks : FindsDoneInTurn port evident.accesses old m d.steps
  unfolding finding
  found_by_masks = record { finds_done = finding; unused_slots_are_clear = λ slot small none. unused_clear laws old m port.0 is ready x.device_after_look x.device_after_read looks.is_driven x.mask x.done x.reads_done slot small none }

  -- what had ended is
  pub heeding : AnswersOkWhatHadEnded m d.steps port
  heeding e here own ended = ended_told e (record { is_in_book = here; port_is = own; issued = laws.steps_and_accesses.ended_is_issued m e reached here ended }) ended
