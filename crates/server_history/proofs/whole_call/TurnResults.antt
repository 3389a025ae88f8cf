-- What a port's turn has found and answered, the call has so far.
use Rattle.std.proofs.Common.{ℕ, ◌≡◌, ◌≢◌, ◌<◌, ◌≤◌, true, false, List, [], ◌∷◌, ◌++◌, Some, None, length, refl, sym, ap, ◌∙◌, subst, inl, inr, ⊎_elim, arith, append_assoc, append-nil, ◌⊎◌}
use Rattle.std.specs.List.{Contains, count_by, list_any}
use Rattle.std.specs.Prelude.{◌↔◌}
use Rattle.std.proofs.lemmas.Bool.{cases_eq, false≢true, ne_eqb, or_from, or_left, or_right}
use Rattle.std.proofs.lemmas.List.Elements.{All-append, All-contains_itself, All-head, All-nil, All-weaker, Contains-append_cases, Contains-append_left, Contains-append_right}
use Rattle.ata_types.specs.declared.Port.{Port}
use Rattle.ata_types.specs.declared.PortState.{PortState}
use Rattle.ata_types.specs.declared.PortState.TheVariants.{Dead, Ready as ReadyState}
use Rattle.ata_types.specs.declared.request.Outcome.{Outcome}
use Rattle.ata_types.specs.declared.request.Outcome.TheVariants.{DeviceError, Ok}
use Rattle.ata_types.specs.declared.request.Reply.{Reply}
use Rattle.ata_types.specs.declared.request.RequestId.{RequestId}
use Rattle.hba_regs.specs.Bits.{bit}
use Rattle.hba_regs.specs.declared.reg.Reg.TheVariants.{Ghc, Px}
use Rattle.hba_regs.specs.declared.reg.PortReg.TheVariants.{Ci, Sact}
use Rattle.adapter.specs.Access.{Access}
use Rattle.adapter.specs.Access.Access.{Reading}
use Rattle.adapter.specs.Device.{Device}
use Rattle.adapter.specs.Rules.{IsOn}
use Rattle.refinement.specs.Relation.{port_at}
use Rattle.refinement.specs.Fragments.{AccessesNoOtherPort}
use Rattle.refinement.specs.PreservedParts.{DoesNotWrite}
use Rattle.refinement.specs.Slots.{IsEmptySlot, RelatesSlot, Serves, ServesRequest, IsInSomeStage, SlotState}
use Rattle.block_machine.specs.Events.{AnswersOkWhatHadEnded, ShownDiskWasInOrCame, AbstractState, IssuedOnPortAreIssuedInSteps, changes_disk}
use Rattle.block_machine.specs.Histories.{JointState, IsReachable}
use Rattle.block_machine.specs.Expected.{after}
use Rattle.block_machine.specs.Ports.{Evidence, IsStoppedOrStuck, Ports, SamePort}
use Rattle.block_machine.specs.State.{Pending, Machine}
use Rattle.block_machine.specs.Steps.{Step, WaitAgain, Answer}
use Rattle.host_boot.specs.TakeOver.{probe_result_of}
use Rattle.driver_history.specs.EvidenceHandling.{tells_fault}
use Rattle.driver_history.specs.Evidence.{ShowsLinkChange, ShowsFailure}
use Rattle.driver_history.specs.Histories.{FindsDone, IsAnsweredOk, IsIssuedOn, RunsWellAnew}
use Rattle.driver_history.specs.PortTurn.{HasTurnIn, KeepsToAnotherPort, EvidenceAgreesOn}
use Rattle.driver_history.specs.AccessTrace.{DoesNotWriteCmd, WritesNeitherCmdNorSctl, LastSctlWritesResetLink}
use Rattle.driver_history.specs.PortInvariants.{EngineRuns}
use Rattle.server_history.specs.Prerequisites.{PrerequisiteLaws}
use Rattle.server_history.specs.Turns.{FindsDoneInTurn, IsPortTurn, LosesNoErrorAndRunsWellAnew, SimulatesTurn, joint_state_of, abstract_state_of}
use Rattle.server_history.proofs.whole_call.ServiceAndTick.{Plan, TakesTurn, not_reset, turn_at}
use Rattle.server_history.specs.ServerState.{ServerState, InCallInvariant, MachineRelation, InvariantWithNoneDue, ports_of, state_of, used_for}
use Rattle.server_history.proofs.any_turn.TurnSteps.{IsSame, counts_none}
use Rattle.server_history.proofs.whole_call.Progress.{others_leave}
use Rattle.server_history.proofs.whole_call.Progress as progress
use Rattle.server_history.proofs.plain_calls.IssueRounds.{any_append, issued_late}
use Rattle.server_history.proofs.state.SlotCommands.{one_said}
use Rattle.server_history.proofs.state.PortSlots.{HasSlot, IsServedBy, free_unused, issued_has, ready_found, served_request, serves_used, still_booked, used_or_not}
use Rattle.server_history.proofs.any_turn.TurnsInOrder.{again_of, answered_of, present_before}
use Rattle.server_history.proofs.any_turn.JoinedParts.{dead_or_not}
use Rattle.slots.specs.declared.SlotUse.{SlotUse}
use Rattle.slots.specs.SlotUses.{PortSlots, use_at}

-- where no answer is of the port, no fault of it is told
none_told : (q : Port) (steps : List Step) → ((e : Pending) (o : Outcome) → Contains steps (Answer e o) → e.request.port ≢ q) → list_any (tells_fault q) steps ≡ false
none_told q [] apart = refl
none_told q (Answer e (DeviceError status error) ∷ steps) apart =
    or_from _ _
    (ne_eqb e.request.port.0 q.0 (λ same. apart e (DeviceError status error) (All-head (Contains (Answer e (DeviceError status error) ∷ steps)) (Answer e (DeviceError status error)) steps (All-contains_itself (Answer e (DeviceError status error) ∷ steps))) (ap port_at same)))
    (none_told q steps (λ y o here. apart y o (Contains-append_right (Answer e (DeviceError status error) ∷ []) steps (Answer y o) here)))
none_told q (step ∷ steps) apart = none_told q steps (λ y o here. apart y o (Contains-append_right (step ∷ []) steps (Answer y o) here))

pub counts_apart : (q : Port) (steps : List Step) → ((e : Pending) (o : Outcome) → Contains steps (Answer e o) → e.request.port ≢ q) → count_by (tells_fault q) steps ≡ 0
counts_apart q steps apart = counts_none (tells_fault q) steps (none_told q steps apart)

module _ (plan : Plan) (laws : PrerequisiteLaws) (s : ServerState) (start : InvariantWithNoneDue s) (old : AbstractState) (reached : IsReachable old.machine) (at : MachineRelation s old.machine) (ports_are : old.ports ≡ ports_of s) where
  abbrev kept : InCallInvariant s
  kept = start.in_call_invariant

  abbrev began : JointState Device
  began = record { device = s.device; abstract = old }

  abbrev state_at : ℕ → PortState
  state_at q = state_of (probe_result_of s.probe_results q)

  abbrev HadTurn : ℕ → Port → Type 0
  HadTurn n q = (q.0 < n) × TakesTurn plan (probe_result_of s.probe_results q.0)

  abbrev Progress : ℕ → ServerState → List Reply → Type 0
  Progress n c replies = progress.Progress plan laws s start old reached at ports_are n c replies

  module _ (n : ℕ) (c mid : ServerState) (before its : List Reply) (p : Progress n c before) (next : InvariantWithNoneDue mid) (part : IsPortTurn (turn_at plan (probe_result_of s.probe_results n) n) (port_at n) its c mid)
      (m_reached : IsReachable (after old.machine p.steps)) (on_mid : IsOn mid.device) where
    abbrev m : Machine
    m = after old.machine p.steps

    abbrev x : SimulatesTurn (turn_at plan (probe_result_of s.probe_results n) n) (port_at n) its part.accesses c mid m
    x = part.simulates_turn m m_reached p.machine_relation

    abbrev all : List Step
    all = x.steps ++ p.steps

    abbrev accesses : List Access
    accesses = p.accesses ++ part.accesses

    pub not_yet : HadTurn n (port_at n) → ⊥
    not_yet served = let lt = served.0 in omega (arith, lt)

    pub whole_is : after old.machine all ≡ after m x.steps
    whole_is = laws.steps_and_accesses.after_joins old.machine x.steps p.steps

    -- so far, no answer is of the port
    pub not_early : (e : Pending) (o : Outcome) → Contains p.steps (Answer e o) → e.request.port ≢ port_at n
    not_early e o early own =
        let small = answered_of (λ q. q.0 < n) p.steps p.turns.below e o early in
        let is : e.request.port.0 ≡ n = ap (λ (q : Port). q.0) own in
        omega (arith, small, is)

    pub not_again : (e : Pending) → Contains p.steps (WaitAgain e) → e.request.port ≢ port_at n
    not_again e early own =
        let small = again_of (λ q. q.0 < n) p.steps p.turns.below e early in
        let is : e.request.port.0 ≡ n = ap (λ (q : Port). q.0) own in
        omega (arith, small, is)

    -- the call so far, with the turn after it
    abbrev pub t : HasTurnIn (port_at n) s.device mid.device
    t = record {
      before = p.accesses;
      turn = part.accesses;
      later = [];
      start = c.device;
      end = mid.device;
      leads_to_start = p.turn_is_taken;
      turn_leads_to_end = part.accesses_are_done;
      leads_to_new = refl;
      earlier_are_of_others = p.others (port_at n) not_yet;
      later_are_of_others = All-nil (KeepsToAnotherPort (port_at n));
    }

    -- ---- what is answered, and what keeps its issue

    pub anew_whole : IssuedOnPortAreIssuedInSteps x.steps (after m x.steps) (port_at n) → IssuedOnPortAreIssuedInSteps all (after old.machine all) (port_at n)
    anew_whole none e here own issued = issued_late e.request.id x.steps p.steps (none e (subst (λ (k : Machine). Contains k.book e) whole_is here) own issued)

    pub changed_whole : list_any (changes_disk (port_at n)) x.steps ≡ true → list_any (changes_disk (port_at n)) all ≡ true
    changed_whole is = any_append (changes_disk (port_at n)) x.steps p.steps ∙ or_left _ _ is

    pub disk_whole : ShownDiskWasInOrCame (abstract_state_of c m) x.steps (abstract_state_of mid (after m x.steps)) (port_at n) → ShownDiskWasInOrCame old all (abstract_state_of mid (after old.machine all)) (port_at n)
    disk_whole had shows = ⊎_elim
        (λ present. ⊎_elim (λ was. inl was) (λ changed. inr (any_append (changes_disk (port_at n)) x.steps p.steps ∙ or_right _ _ changed)) (present_before old.machine (port_at n) p.steps present))
        (λ changed. inr (changed_whole changed))
        (had shows)

    -- ---- its part of the call

    pub named : (evidence : Evidence) → EvidenceAgreesOn (port_at n) x.evidence evidence → IsStoppedOrStuck x.evidence (port_at n) → IsStoppedOrStuck evidence (port_at n)
    named evidence alike i = ⊎_elim (λ stopped. inl (alike.stopped.0 stopped)) (λ stuck. inr (alike.stuck.0 stuck)) i

    -- one that it leaves ready runs
    runs_then : state_of (probe_result_of mid.probe_results n) ≡ ReadyState → EngineRuns n mid.device
    runs_then ready_mid = (next.in_call_invariant.port_invariant n (ready_found mid n next.in_call_invariant ready_mid).0).ready_engine_runs ready_mid

    -- where the turn stopped the port and left it ready, ST was set in it
    pub set_since : state_of (probe_result_of mid.probe_results n) ≡ ReadyState → IsStoppedOrStuck x.evidence (port_at n) → length c.device.tape ≤ (mid.device.port n).notes.st_set_at
    set_since ready_mid i = ⊎_elim
        (λ stopped. ⊎_elim
        (λ stops. laws.calls.stopped_port_set_st_since (port_at n) part.accesses c.device mid.device p.adapter_is_on
        (All-weaker (AccessesNoOtherPort (port_at n)) (DoesNotWrite Ghc) (λ access of. laws.one_port_spares_ghc (port_at n) access of) part.accesses part.accesses_are_of_port) part.accesses_are_done stops (runs_then ready_mid).st_is_set)
        (λ (reset : _ × _). absurd (not_reset plan (probe_result_of s.probe_results n) n its reset.0))
        (x.is_evidenced.named_stopped_was_stopped_or_reset stopped))
        (λ stuck. ⊎_elim
        (λ (dead : state_of (probe_result_of c.probe_results n) ≡ Dead). let z : ReadyState ≡ Dead = sym ready_mid ∙ (x.port_is_serviced.0 dead).1 ∙ dead in absurd cc)
        (λ (lives : state_of (probe_result_of c.probe_results n) ≢ Dead). let z : ReadyState ≡ Dead = sym ready_mid ∙ (x.port_is_serviced.1 lives).0.dead_exactly_if_stuck.1 stuck in absurd cc)
        (dead_or_not (state_of (probe_result_of c.probe_results n))))
        i

    -- what it did of trouble the call did so far
    module _ (evidence : Evidence) (alike : EvidenceAgreesOn (port_at n) x.evidence evidence) (same_n : SamePort old.ports (ports_of c) (port_at n))
        (stops_troubled : (state_of (probe_result_of c.probe_results n) ≡ ReadyState) ⊎ (state_of (probe_result_of mid.probe_results n) ≡ ReadyState) → ShowsFailure (c.device.port n) ⊎ ShowsLinkChange (c.device.port n) → IsStoppedOrStuck x.evidence (port_at n))
        (linked : state_of (probe_result_of mid.probe_results n) ≡ ReadyState → ((s.device.port n).link_due ≡ false) ⊎ LastSctlWritesResetLink (port_at n) part.accesses) (did : LosesNoErrorAndRunsWellAnew (port_at n) part.accesses (joint_state_of c m) x.evidence (ports_of mid) mid.device) where
      same_self : SamePort (ports_of mid) (ports_of mid) (port_at n)
      same_self = (refl, refl, refl, refl, refl, refl)

      pub trouble_whole : LosesNoErrorAndRunsWellAnew (port_at n) accesses began evidence (ports_of mid) mid.device
      trouble_whole = record {
        loses_no_error = laws.calls.turn_trouble_is_calls (port_at n) began (abstract_state_of c m) (ports_of mid) (ports_of mid) mid.device x.evidence evidence kept.adapter_is_on t on_mid same_self alike same_n set_since stops_troubled did.loses_no_error;
        runs_well_anew = subst (λ (list : List Access). RunsWellAnew evidence (p.accesses ++ list) began (ports_of mid) mid.device (port_at n)) (append-nil part.accesses)
            (laws.calls.turn_running_well_is_calls (port_at n) began (abstract_state_of c m) (ports_of mid) (ports_of mid) mid.device x.evidence evidence kept.adapter_is_on t on_mid linked same_self alike (λ ready_mid. (runs_then ready_mid).faults_are_recorded.st_set_is_on_tape) did.runs_well_anew);
      }

    -- ---- a ready port

    module _ (ready : state_at n ≡ ReadyState) where
      pub low : n < 4
      low = (ready_found s n kept ready).0

      pub ready_c : state_of (probe_result_of c.probe_results n) ≡ ReadyState
      ready_c = ap state_of (p.found (port_at n) not_yet) ∙ ready

      pub was_ready : old.ports.state (port_at n) ≡ ReadyState
      was_ready = ap (λ (ports : Ports). ports.state (port_at n)) ports_are ∙ ready

      pub undue : (s.device.port n).link_due ≡ false
      undue = ((kept.port_invariant n low).ready_engine_runs ready).faults_are_recorded.no_link_is_due

      -- ---- requests, when the call began and when the turn did

      -- a request that was issued on the port has a slot
      pub record IsLeading (e : Pending) : Type 0 where
        pub now_is : Pending
        pub here : Contains m.book now_is
        pub same_as : IsSame e now_is
        pub issued_now : now_is.issued ≡ true
        pub has : HasSlot c (port_at n) now_is.request.id

      pub leading : (e : Pending) → IsIssuedOn (port_at n) old.machine e → IsLeading e
      leading e own =
          let w = p.turns.further e own.is_in_book (let q = ap (λ (x : Port). x.0) own.port_is in omega (arith, q)) in
          let issued : w.0.issued ≡ true = w.2.issued ∙ own.issued in
          record { now_is = w.0; here = w.1; same_as = w.2; issued_now = issued; has = issued_has c m (port_at n) p.machine_relation p.invariant_with_none_due.in_call_invariant ready_c w.0 w.1 (ap (λ r. r.port) w.2.request ∙ own.port_is) issued }

      pub then_issued : (e : Pending) → IsIssuedOn (port_at n) old.machine e → (h : IsLeading e) → IsIssuedOn (port_at n) m h.now_is
      then_issued e own h = record { is_in_book = h.here; port_is = ap (λ r. r.port) h.same_as.request ∙ own.port_is; issued = h.issued_now }

      -- one that had ended was issued
      pub ended_on : (e : Pending) → Contains old.machine.book e → e.request.port ≡ port_at n → e.ended ≡ true → IsIssuedOn (port_at n) old.machine e
      ended_on e there own ended = record { is_in_book = there; port_is = own; issued = laws.steps_and_accesses.ended_is_issued old.machine e reached there ended }

      -- its slot serves it when the turn begins
      pub slot_serves : (e : Pending) → (h : IsLeading e) → p.machine_relation.uses n h.has.slot ≡ Serves h.now_is.request.id
      slot_serves e h = serves_used c m n p.machine_relation ready_c h.has.slot h.has.used h.has.used_is ∙ ap Serves h.has.id_is

      pub by : (e : Pending) → (h : IsLeading e) → IsServedBy c m n h.has.slot h.now_is.request.id
      by e h = served_request c m n h.has.slot p.machine_relation ready_c h.now_is.request.id (slot_serves e h)

      -- the port's slots are what they were when the service began
      pub used_then : (i : ℕ) → used_for c.slots n i ≡ used_for s.slots n i
      used_then i = ap (λ (slots : PortSlots). use_at slots i) (p.slots (port_at n) not_yet)

      -- bytes of another slot may say its command still: then it has ended, and that slot isn't used
      module _ (e : Pending) (own : IsIssuedOn (port_at n) old.machine e) (slot : ℕ) (apart : slot ≢ (leading e own).has.slot)
          (says : ServesRequest old.machine s.device.memory (s.device.port n) n slot e.request.id) where
        abbrev h : IsLeading e
        h = leading e own

        unused : used_for s.slots n slot ≡ None
        unused = ⊎_elim
            (λ (y : (u : SlotUse) × (used_for s.slots n slot ≡ Some u)).
            let same : e.request.id ≡ y.0.id = one_said laws s kept old.machine at n slot y.0 e.request.id ready y.1 says in
            let there = serves_used s old.machine n at ready slot y.0 y.1 ∙ ap Serves (sym same) in
            let here = serves_used s old.machine n at ready h.has.slot h.has.used (sym (used_then h.has.slot) ∙ h.has.used_is) ∙ ap Serves (h.has.id_is ∙ ap (λ r. r.id) h.same_as.request) in
            absurd (apart (at.driver_relation.state_relation.serve_distinct_requests n slot n h.has.slot e.request.id there here).1))
            (λ none. none)
            (used_or_not (used_for s.slots n slot))

        pub has_ended : e.ended ≡ true
        has_ended = ap (λ (y : Pending). y.ended) (sym same) ∙ staged says.stage
          where
            free : IsEmptySlot (s.device.port n) slot
            free = subst (λ (u : SlotState). RelatesSlot old.machine s.device.memory s.device.tape (s.device.port n) n slot u) (free_unused s old.machine n at ready slot unused) (at.driver_relation.state_relation.relates_slots n slot)

            same : says.pending ≡ e
            same = laws.steps_and_accesses.an_id_is_one_request old.machine reached says.pending e (still_booked s old.machine n at ready says.pending says.may_still_move says.port_is).0 own.is_in_book (ap (λ (i : RequestId). i.0) says.id_is)

            staged : IsInSomeStage s.device.memory (s.device.port n) n slot says.pending says.command says.places → says.pending.ended ≡ true
            staged (inl waits) = absurd (false≢true (sym free.is_not_issued ∙ waits.issued))
            staged (inr (inl taken)) = let z : None ≡ Some taken.command = sym free.is_not_taken ∙ taken.taken in absurd cc
            staged (inr (inr (inl ended))) = ended.ended
            staged (inr (inr (inr dropped))) = absurd (false≢true (sym dropped.st_is_clear ∙ ((kept.port_invariant n low).ready_engine_runs ready).st_is_set))

      -- who is answered of the port was answered in the turn
      answered_late : (e : Pending) → e.request.port ≡ port_at n → (a : IsAnsweredOk e all) → Contains x.steps (Answer a.0 Ok)
      answered_late e own a = ⊎_elim
          (λ late. late)
          (λ early. absurd (not_early a.0 Ok early (ap (λ r. r.port) a.1 ∙ own)))
          (Contains-append_cases x.steps p.steps (Answer a.0 Ok) a.2)

      -- ---- what is found done

      module _ (f : FindsDoneInTurn (port_at n) part.accesses c m x.steps) (ended : AnswersOkWhatHadEnded m x.steps (port_at n)) where
        abbrev AreClear : ℕ → Type 0
        AreClear slot = (bit f.finds_done.ci slot ≡ false) × (bit f.finds_done.sact slot ≡ false)

        module _ (other : Pending) (own : IsIssuedOn (port_at n) old.machine other) where
          abbrev now : IsLeading other
          now = leading other own

          -- a request's slot tells whether it was answered
          at_slot : IsAnsweredOk other all ↔ AreClear now.has.slot
          at_slot =
              let exact = f.finds_done.answered_iff_done now.now_is now.has.slot (then_issued other own now) (by other now).serves in (
                (λ ok. exact.0 (ok.0, ok.1 ∙ sym now.same_as.request, answered_late other own.port_is ok)),
                (λ clear. let ok = exact.1 clear in (ok.0, ok.1 ∙ now.same_as.request, Contains-append_left x.steps p.steps (Answer ok.0 Ok) ok.2)),
              )

          apart_too : (slot : ℕ) → slot ≢ now.has.slot → ServesRequest old.machine s.device.memory (s.device.port n) n slot other.request.id → IsAnsweredOk other all ↔ AreClear slot
          apart_too slot apart says = (
            (λ _. f.unused_slots_are_clear slot says.list_is_in_place.slot_below (used_then slot ∙ unused other own slot apart says)),
            (λ _.
                let ok = ended now.now_is now.here (ap (λ r. r.port) now.same_as.request ∙ own.port_is) (now.same_as.ended (has_ended other own slot apart says)) in
                (ok.0, ok.1 ∙ now.same_as.request, Contains-append_left x.steps p.steps (Answer ok.0 Ok) ok.2)),
          )

        pub finding : FindsDone (port_at n) accesses began all
        finding = record {
          ci = f.finds_done.ci;
          sact = f.finds_done.sact;
          reads = record {
            before = p.accesses ++ f.finds_done.reads.before;
            later = f.finds_done.reads.later;
            accesses_are_split = ap (λ (late : List Access). p.accesses ++ late) f.finds_done.reads.accesses_are_split
                ∙ sym (append_assoc p.accesses f.finds_done.reads.before (Reading (Px (port_at n) Ci) f.finds_done.ci ∷ Reading (Px (port_at n) Sact) f.finds_done.sact ∷ f.finds_done.reads.later));
            cmd_is_unwritten_before = All-append (DoesNotWriteCmd (port_at n)) p.accesses f.finds_done.reads.before
                (All-weaker (WritesNeitherCmdNorSctl (port_at n)) (DoesNotWriteCmd (port_at n)) (λ access leaves. leaves.0) p.accesses (others_leave plan laws s start old reached at ports_are (port_at n) p.accesses (p.others (port_at n) not_yet)))
                f.finds_done.reads.cmd_is_unwritten_before;
          };
          answered_iff_done = λ other slot own says. ⊎_elim
              (λ (same : slot ≡ (leading other own).has.slot). subst (λ (i : ℕ). IsAnsweredOk other all ↔ AreClear i) (sym same) (at_slot other own))
              (λ (apart : slot ≢ (leading other own).has.slot). apart_too other own slot apart says)
              (cases_eq slot (leading other own).has.slot);
        }

      pub ended_whole : AnswersOkWhatHadEnded m x.steps (port_at n) → AnswersOkWhatHadEnded old.machine all (port_at n)
      ended_whole answers e there own ended =
          let h = leading e (ended_on e there own ended) in
          let y = answers h.now_is h.here (ap (λ r. r.port) h.same_as.request ∙ own) (h.same_as.ended ended) in
          (y.0, y.1 ∙ h.same_as.request, Contains-append_left x.steps p.steps (Answer y.0 Ok) y.2)
