-- A turn that mends its port heeds what it finds of the port: no request keeps its issue, and one fault is told at most.
use Rattle.std.proofs.Common.{ℕ, ◌≡◌, ◌≢◌, ◌<◌, ◌≤◌, ◌+◌, ◌++◌, ◌==◌, ◌||◌, Bool, true, false, cond, suc, eq-eqb, List, [], ◌∷◌, Option, Some, None, refl, sym, ap, ◌∙◌, subst, inl, inr, arith, ⊎_elim}
use Rattle.std.specs.List.{Contains, list_any}
use Rattle.std.specs.Prelude.{◌⊎◌, count_by}
use Rattle.std.proofs.lemmas.Bool.{cases_Bool, false≢true}
use Rattle.std.proofs.lemmas.List.{get_or-set_same}
use Rattle.std.proofs.lemmas.List.Elements.{All-contains, All-contains_itself, All-weaker, Contains-append_left, Contains-append_right}
use Rattle.std.proofs.lemmas.List.Sorted.{Contains-permutation}
use Rattle.std.proofs.lemmas.List.Sums.{sum_by-append, sum_by-cons}
use Rattle.ata_types.specs.declared.Port.{Port}
use Rattle.ata_types.specs.declared.PortState.TheVariants.{Ready as ReadyState}
use Rattle.ata_types.specs.declared.request.Outcome.{Outcome}
use Rattle.ata_types.specs.declared.request.Outcome.TheVariants as outcome
use Rattle.ata_types.specs.declared.request.Reply.{Reply}
use Rattle.ata_types.specs.declared.request.RequestId.{RequestId}
use Rattle.adapter.specs.Device.{DevicePort}
use Rattle.refinement.specs.Fragments.{AnySlotStates, IsSimulated}
use Rattle.block_machine.specs.Events.{IsIssuedIn, IssuedOnPortAreIssuedInSteps, answers_of, issues_id}
use Rattle.block_machine.specs.Histories.{IsReachable}
use Rattle.block_machine.specs.Expected.{after}
use Rattle.block_machine.specs.State.{Machine, Pending}
use Rattle.block_machine.specs.Steps.{Answer, Issue, Step, update_pending, newly_issued}
use Rattle.block_machine.specs.declared.due.QueueMode.{QueueMode}
use Rattle.driver_history.specs.EvidenceHandling.{ShowsErrorOrLinkOrDiskChange, ServicesReadyPort, tells_fault}
use Rattle.server_history.proofs.state.ListMembers.{at_cases, contains_cases, contains_here, contains_there, map_in}
use Rattle.host_boot.specs.TakeOver.{probe_result_of}
use Rattle.port_control.specs.PortEvents.{IsPxisSstsOrOwnIsAccess}
use Rattle.port_control.specs.declared.events.PortError.{PortError}
use Rattle.port_control.specs.declared.events.PortError.TheVariants.{FatalError, TaskFileError, TimedOut, LinkChanged}
use Rattle.request_queue.specs.BookEntries.{BookEntry}
use Rattle.request_queue.specs.Dispositions.{disposition_of}
use Rattle.request_queue.specs.BookRelation.{EntryRelation}
use Rattle.request_queue.specs.declared.disposition.FailedRequest as failed_request
use Rattle.request_queue.specs.declared.disposition.Disposition.TheVariants.{Complete}
use Rattle.slots.specs.SlotUses.{PortSlots, use_at}
use Rattle.server_history.specs.Prerequisites.{PrerequisiteLaws}
use Rattle.server_history.specs.ErrorHandling.{HasResolved, HandlesPortError, requests_of}
use Rattle.server_history.specs.IssuingAndAnswering.{AllByDeviceOrIssue, ok_answers_newest_first}
use Rattle.server_history.specs.ServerState.{ServerState, InCallInvariant, MachineRelation, mode_in, no_slots, state_of, used_for}
use Rattle.server_history.specs.Turns.{IsTurnOrDeviceStep, abstract_state_of}
use Rattle.server_history.proofs.state.AnswerSteps.{answered_in, no_answer, no_answer_issuing}
use Rattle.server_history.proofs.recovery_turn.MendedPort.{interrupted}
use Rattle.server_history.proofs.recovery_turn.DecidedSteps.{DecidesTurn, failed_named, nobody}
use Rattle.server_history.proofs.recovery_turn.TurnEvidence.{IsEvident}
use Rattle.server_history.proofs.recovery_turn.NamedTrouble.{gone_is}
use Rattle.server_history.proofs.recovery_turn.DoneRequests.{heeding}
use Rattle.server_history.proofs.recovery_turn.MendedMachine.{mid_kept}
use Rattle.server_history.proofs.dispositions.AnswerOrder.{AreDifferent, answered_id, still_differ, told_differ}
use Rattle.server_history.proofs.any_turn.JoinedParts.{answers_there}
use Rattle.server_history.proofs.dispositions.FateReasons.{Why, why}
use Rattle.server_history.proofs.any_turn.ToldTrouble.{lost_or_not}
use Rattle.server_history.proofs.recovery_turn.TurnParts.{evidence_by, failed_of, fatal_of, gone_of, is_named_if, named_if, named_if_is, until_issues}
use Rattle.server_history.proofs.state.CallEvidence.{failure_shows, shows_failure, shows_fatal, unfatal}
use Rattle.server_history.proofs.plain_calls.IssueRounds.{issued_late}
use Rattle.server_history.proofs.state.PortSlots.{HasSlot, issued_has, of_ready, ready_found}
use Rattle.server_history.proofs.state.PairedLists.{at_right}
use Rattle.server_history.proofs.state.FirstMembers.{nowhere, first_here}

-- ---- requests that are issued

-- Who is issued after steps that issue requests was issued by them, or was before.
issued_before : PrerequisiteLaws → (mode : QueueMode) (port : Port) (m : Machine) (steps : List Step) → AllByDeviceOrIssue mode port steps → (e : Pending) → Contains (after m steps).book e → e.issued ≡ true
    → IsIssuedIn e.request.id steps ⊎ ((was : Pending) × Contains m.book was × (was.request ≡ e.request) × (was.issued ≡ true))
issued_before laws mode port m [] only e here issued = inr (e, here, refl, issued)
issued_before laws mode port m (Issue its x ∷ steps) only e here issued =
    let w = map_in (λ (y : Pending). update_pending x.request.id newly_issued y) (after m steps).book e here in ⊎_elim
    (λ (hit : (w.0.request.id.0 ≡ x.request.id.0) × (update_pending x.request.id newly_issued w.0 ≡ newly_issued w.0)).
    let same : e.request.id.0 ≡ x.request.id.0 = ap (λ (y : Pending). y.request.id.0) (w.2 ∙ hit.1) ∙ hit.0 in
    inl (ap (λ (b : Bool). b || list_any (issues_id e.request.id) steps) (eq-eqb x.request.id.0 e.request.id.0 (sym same))))
    (λ miss.
    let same : e ≡ w.0 = w.2 ∙ miss.1 in
    ⊎_elim
    (λ (before : IsIssuedIn w.0.request.id steps).
    inl (by (x.request.id.0 == e.request.id.0) (subst (λ (y : Pending). IsIssuedIn y.request.id steps) (sym same) before)))
    (λ was. inr (was.0, was.1, was.2 ∙ ap (λ (y : Pending). y.request) (sym same), was.3))
    (issued_before laws mode port m steps only.2 w.0 w.1 (ap (λ (y : Pending). y.issued) (sym same) ∙ issued)))
    (at_cases x.request.id newly_issued w.0)
  where
    by : (b : Bool) → list_any (issues_id e.request.id) steps ≡ true → (b || list_any (issues_id e.request.id) steps) ≡ true
    by true is = refl
    by false is = is
issued_before laws mode port m (step ∷ steps) only e here issued =
    let l = laws.steps_and_accesses.entry_is_found_in_earlier_book (after m steps).book (after m (step ∷ steps)).book e (laws.steps_and_accesses.device_steps_spare_book (after m steps) (step ∷ []) (tt, only.0)).book here in
    ⊎_elim
    (λ (before : IsIssuedIn l.0.request.id steps). inl (by (issues_id e.request.id step) (subst (λ (id : RequestId). IsIssuedIn id steps) (sym (ap (λ q. q.id) l.2.request)) before)))
    (λ was. inr (was.0, was.1, was.2 ∙ sym l.2.request, was.3))
    (issued_before laws mode port m steps only.1 l.0 l.1 (sym l.2.issued ∙ issued))
  where
    by : (b : Bool) → list_any (issues_id e.request.id) steps ≡ true → (b || list_any (issues_id e.request.id) steps) ≡ true
    by true is = refl
    by false is = is

-- ---- faults that are told

count_cons : (p : Step → Bool) (step : Step) (steps : List Step) → count_by p (step ∷ steps) ≡ cond (p step) 1 0 + count_by p steps
count_cons p step steps = sum_by-cons (λ (s : Step). cond (p s) 1 0) step steps

count_append : (p : Step → Bool) (late early : List Step) → count_by p (late ++ early) ≡ count_by p late + count_by p early
count_append p late early = sum_by-append (λ (s : Step). cond (p s) 1 0) late early

-- none is told where no answer tells one
none_told : (port : Port) (steps : List Step) → ((e : Pending) (o : Outcome) → Contains steps (Answer e o) → tells_fault port (Answer e o) ≡ false) → count_by (tells_fault port) steps ≡ 0
none_told port [] none = refl
none_told port (Answer e o ∷ steps) none =
    let later = none_told port steps (λ y p there. none y p (contains_there (Answer e o) steps (Answer y p) there)) in
    let c : count_by (tells_fault port) (Answer e o ∷ steps) ≡ 0 + count_by (tells_fault port) steps =
    count_cons (tells_fault port) (Answer e o) steps ∙ ap (λ (b : Bool). cond b 1 0 + count_by (tells_fault port) steps) (none e o (first_here (Answer e o) steps)) in
    omega (arith, later, c)
none_told port (step ∷ steps) none =
    let later = none_told port steps (λ y p there. none y p (contains_there step steps (Answer y p) there)) in
    let c : count_by (tells_fault port) (step ∷ steps) ≡ 0 + count_by (tells_fault port) steps = count_cons (tells_fault port) step steps in
    omega (arith, later, c)

there_answer : (steps : List Step) (e : Pending) (o : Outcome) → Contains steps (Answer e o) → Contains (answers_of steps) (e, o)
there_answer [] e o here = absurd (nowhere (Answer e o) here)
there_answer (Answer y p ∷ steps) e o here = ⊎_elim
    (λ (is : Answer e o ≡ Answer y p). let a : e ≡ y = cc in let b : o ≡ p = cc in contains_here (y, p) (answers_of steps) (e, o) (λ i. (a i, b i)))
    (λ (there : Contains steps (Answer e o)). contains_there (y, p) (answers_of steps) (e, o) (there_answer steps e o there))
    (contains_cases (Answer y p) steps (Answer e o) here)
there_answer (step ∷ steps) e o here = ⊎_elim
    (λ (is : Answer e o ≡ step). absurd (let z : Answer e o ≡ step = is in cc))
    (λ (there : Contains steps (Answer e o)). there_answer steps e o there)
    (contains_cases step steps (Answer e o) here)

-- The answers are of different ids, and those that tell a fault of one: so one is told at most.
one_told : (port : Port) (id : ℕ) (steps : List Step) → AreDifferent (answers_of steps) → ((e : Pending) (o : Outcome) → Contains steps (Answer e o) → tells_fault port (Answer e o) ≡ true → e.request.id.0 ≡ id)
    → count_by (tells_fault port) steps ≤ 1
one_told port id [] differ its = omega arith
one_told port id (Answer e o ∷ steps) differ its =
    by (one_told port id steps (λ i j d lt below. differ (suc i) (suc j) d (omega (arith, lt)) (omega (arith, below))) (λ y p there. its y p (contains_there (Answer e o) steps (Answer y p) there)))
    (cases_Bool (tells_fault port (Answer e o)))
  where
    counted : count_by (tells_fault port) (Answer e o ∷ steps) ≡ cond (tells_fault port (Answer e o)) 1 0 + count_by (tells_fault port) steps
    counted = count_cons (tells_fault port) (Answer e o) steps

    apart : (y : Pending) (p : Outcome) → Contains steps (Answer y p) → y.request.id.0 ≢ e.request.id.0
    apart y p there same = All-contains (λ (a : Pending × Outcome). e.request.id.0 ≢ answered_id a) (answers_of steps) (y, p)
        (λ i d small. differ 0 (suc i) d (omega arith) (omega (arith, small))) (there_answer steps y p there) (sym same)

    by : count_by (tells_fault port) steps ≤ 1 → (tells_fault port (Answer e o) ≡ true) ⊎ (tells_fault port (Answer e o) ≡ false) → count_by (tells_fault port) (Answer e o ∷ steps) ≤ 1
    by rest (inl tells) =
        let none = none_told port steps (λ y p there. ⊎_elim
        (λ (too : tells_fault port (Answer y p) ≡ true). absurd (apart y p there (its y p (contains_there (Answer e o) steps (Answer y p) there) too ∙ sym (its e o (first_here (Answer e o) steps) tells))))
        (λ other. other)
        (cases_Bool (tells_fault port (Answer y p)))) in
        let c : count_by (tells_fault port) (Answer e o ∷ steps) ≡ 1 + count_by (tells_fault port) steps = counted ∙ ap (λ (b : Bool). cond b 1 0 + count_by (tells_fault port) steps) tells in
        omega (arith, none, c)
    by rest (inr other) =
        let c : count_by (tells_fault port) (Answer e o ∷ steps) ≡ 0 + count_by (tells_fault port) steps = counted ∙ ap (λ (b : Bool). cond b 1 0 + count_by (tells_fault port) steps) other in
        omega (arith, rest, c)
one_told port id (step ∷ steps) differ its =
    let rest = one_told port id steps differ (λ y p there. its y p (contains_there step steps (Answer y p) there)) in
    let c : count_by (tells_fault port) (step ∷ steps) ≡ 0 + count_by (tells_fault port) steps = count_cons (tells_fault port) step steps in
    omega (arith, rest, c)

-- ---- the whole

abbrev failed_id : Option failed_request.FailedRequest → ℕ
failed_id None = 0
failed_id (Some failed) = failed.id.0

module _ (laws : PrerequisiteLaws) (port : Port) (replies : List Reply) (old new : ServerState) (k : InCallInvariant old) (ready : state_of (probe_result_of old.probe_results port.0) ≡ ReadyState) (r : HandlesPortError port replies old new)
    (looks : IsSimulated (IsPxisSstsOrOwnIsAccess port) AnySlotStates old.device r.has_resolved.error_handled.device_after_look) (kept : InCallInvariant r.server_after_resolving) (evident : IsEvident port replies old new r) (m : Machine) (reached : IsReachable m) (is : MachineRelation old m)
    (d : DecidesTurn port replies old new r (evidence_by r.has_resolved) m) where
  abbrev a : HasResolved port r.later_replies old r.server_after_resolving
  a = r.has_resolved

  abbrev base : List Step
  base = until_issues d.dispositions

  -- ---- no request keeps its issue

  low : port.0 < 4
  low = (ready_found old port.0 k ready).0

  -- once the fates are met, no slot is used
  unused : (slot : ℕ) → used_for r.server_after_resolving.slots port.0 slot ≡ None
  unused slot =
      let then_kept = mid_kept laws port r.later_replies old r.server_after_resolving k ready a looks in
      let four = then_kept.slots_are_of_four_ports in
      ap (λ (s : ServerState). used_for s.slots port.0 slot) a.server_is
      ∙ ap (λ (slots : PortSlots). use_at slots slot) (get_or-set_same a.server_after_handling.slots port.0 a.slots no_slots (let small = low in omega (arith, small, four))) ∙ a.has_no_used_slot.all_slots_are_free slot

  none_issued : (e : Pending) → Contains (after m base).book e → e.request.port ≡ port → e.issued ≡ true → ⊥
  none_issued e here own issued =
      let w = at_right EntryRelation r.server_after_resolving.book (after m base).book d.dispositions.stands.book e here in
      let number : w.0.request.port.0 ≡ port.0 = ap (λ (q : Port). q.0) (sym w.2.port ∙ own) in
      let is_ready = ap (λ (q : ℕ). state_of (probe_result_of r.server_after_resolving.probe_results q)) (sym number) ∙ of_ready r.server_after_resolving kept w.0 w.1 in
      let h : HasSlot r.server_after_resolving port e.request.id = issued_has r.server_after_resolving (after m base) port d.dispositions.stands kept is_ready e here own issued in
      let z : None ≡ Some h.used = sym (unused h.slot) ∙ h.used_is in absurd cc

  pub anew : IssuedOnPortAreIssuedInSteps d.steps (after m d.steps) port
  anew e here own issued =
      let all : after m d.steps ≡ after (after m base) d.issuing.steps = ap (after m) d.steps_are ∙ laws.steps_and_accesses.after_joins m d.issuing.steps base in
      subst (IsIssuedIn e.request.id) (sym d.steps_are) (⊎_elim
      (λ now. issued_late e.request.id d.issuing.steps base now)
      (λ was. absurd (none_issued was.0 was.1 (ap (λ q. q.port) was.2 ∙ own) was.3))
      (issued_before laws (mode_in r.server_after_resolving port) port (after m base) d.issuing.steps d.issuing.only e (subst (λ (n : Machine). Contains n.book e) all here) issued))

  -- ---- one fault is told at most

  fate_there : (e : Pending) (o : Outcome) → Contains d.dispositions.dispositions (Answer e o) → Contains d.steps (Answer e o)
  fate_there e o here = subst (λ (steps : List Step). Contains steps (Answer e o)) (sym d.steps_are)
      (Contains-append_right d.issuing.steps base (Answer e o) (Contains-append_left d.dispositions.dispositions (d.dispositions.middle ++ (ok_answers_newest_first d.dispositions.ended ++ d.dispositions.first)) (Answer e o) here))

  differ : AreDifferent (answers_of d.dispositions.dispositions)
  differ = still_differ d.dispositions.tells.answers (answers_of d.dispositions.dispositions) d.dispositions.tells.is_permutation (told_differ port d.dispositions.tells.answers
      (All-weaker (Contains d.dispositions.tells.answers) (λ x. x.0.request.port ≡ port)
      (λ x here. All-contains (IsTurnOrDeviceStep port) d.steps (Answer x.0 x.1) d.own (fate_there x.0 x.1 (answers_there d.dispositions.dispositions x (Contains-permutation d.dispositions.tells.answers (answers_of d.dispositions.dispositions) x d.dispositions.tells.is_permutation here))))
      d.dispositions.tells.answers (All-contains_itself d.dispositions.tells.answers))
      d.dispositions.tells.ordered)

  named : (e : Pending) (o : Outcome) → Contains d.dispositions.dispositions (Answer e o) → tells_fault port (Answer e o) ≡ true → e.request.id.0 ≡ failed_id a.failed
  named e o here tells = by (why a.failed a.revalidation w.0.request o w.3)
    where
      w : (request : BookEntry) × Contains (requests_of port a.server_after_handling.book) request × EntryRelation request e × (disposition_of a.failed a.revalidation request.request ≡ Complete o)
      w = d.dispositions.answered e o here

      no : (other : Outcome) → o ≡ other → tells_fault port (Answer e other) ≡ false → ⊥
      no other same none = false≢true (sym none ∙ ap (λ (y : Outcome). tells_fault port (Answer e y)) (sym same) ∙ tells)

      by : Why a.failed a.revalidation w.0.request o → e.request.id.0 ≡ failed_id a.failed
      by (inl y) = ap (λ (i : RequestId). i.0) w.2.id ∙ sym y.2 ∙ ap failed_id (sym y.1)
      by (inr (inl y)) = absurd (no outcome.Aborted y.3 refl)
      by (inr (inr (inl y))) = absurd (no outcome.Unplugged y.1 refl)
      by (inr (inr (inr (inl y)))) = absurd (no outcome.PortDead y.1 refl)
      by (inr (inr (inr (inr y)))) = absurd (no outcome.Revoked y.3 refl)

  -- and none where nobody is named
  untold : a.failed ≡ None → count_by (tells_fault port) d.dispositions.dispositions ≡ 0
  untold nobody = none_told port d.dispositions.dispositions (λ e o here. ⊎_elim
      (λ (tells : tells_fault port (Answer e o) ≡ true). absurd (not_named e o here tells))
      (λ other. other)
      (cases_Bool (tells_fault port (Answer e o))))
    where
      not_named : (e : Pending) (o : Outcome) → Contains d.dispositions.dispositions (Answer e o) → tells_fault port (Answer e o) ≡ true → ⊥
      not_named e o here tells = by (why a.failed a.revalidation w.0.request o w.3)
        where
          w : (request : BookEntry) × Contains (requests_of port a.server_after_handling.book) request × EntryRelation request e × (disposition_of a.failed a.revalidation request.request ≡ Complete o)
          w = d.dispositions.answered e o here

          no : (other : Outcome) → o ≡ other → tells_fault port (Answer e other) ≡ false → ⊥
          no other same none = false≢true (sym none ∙ ap (λ (y : Outcome). tells_fault port (Answer e y)) (sym same) ∙ tells)

          by : Why a.failed a.revalidation w.0.request o → ⊥
          by (inl y) = let z : None ≡ Some y.0 = sym nobody ∙ y.1 in cc
          by (inr (inl y)) = no outcome.Aborted y.3 refl
          by (inr (inr (inl y))) = no outcome.Unplugged y.1 refl
          by (inr (inr (inr (inl y)))) = no outcome.PortDead y.1 refl
          by (inr (inr (inr (inr y)))) = no outcome.Revoked y.3 refl

  silent : (steps : List Step) → ((e : Pending) (o : Outcome) → Contains steps (Answer e o) → o ≡ outcome.Ok) → count_by (tells_fault port) steps ≡ 0
  silent steps ok = none_told port steps (λ e o here. ap (λ (y : Outcome). tells_fault port (Answer e y)) (ok e o here))

  counted : count_by (tells_fault port) d.steps ≡ count_by (tells_fault port) d.dispositions.dispositions
  counted =
      let issuing = silent d.issuing.steps (λ e o here. absurd (no_answer_issuing (mode_in r.server_after_resolving port) port d.issuing.steps d.issuing.only e o here)) in
      let middle = silent d.dispositions.middle (λ e o here. absurd (no_answer d.dispositions.middle d.dispositions.middle_only e o here)) in
      let ended = silent (ok_answers_newest_first d.dispositions.ended) (λ e o here. (answered_in d.dispositions.ended e o here).1) in
      let first = silent d.dispositions.first (λ e o here. absurd (no_answer d.dispositions.first d.dispositions.first_only e o here)) in
      let c = ap (count_by (tells_fault port)) d.steps_are ∙ count_append (tells_fault port) d.issuing.steps base in
      let c1 = count_append (tells_fault port) d.dispositions.dispositions (d.dispositions.middle ++ (ok_answers_newest_first d.dispositions.ended ++ d.dispositions.first)) in
      let c2 = count_append (tells_fault port) d.dispositions.middle (ok_answers_newest_first d.dispositions.ended ++ d.dispositions.first) in
      let c3 = count_append (tells_fault port) (ok_answers_newest_first d.dispositions.ended) d.dispositions.first in
      omega (arith, issuing, middle, ended, first, c, c1, c2, c3)

  single : count_by (tells_fault port) d.steps ≤ 1
  single = let one = one_told port (failed_id a.failed) d.dispositions.dispositions differ named in let c = counted in omega (arith, one, c)

  abbrev shown : DevicePort
  shown = old.device.port port.0

  -- an error that was fatal was a failure
  fatal : Contains (evidence_by a).showing_fatal_error port → Contains (evidence_by a).showing_error port × (count_by (tells_fault port) d.steps ≡ 0)
  fatal here = (
    is_failure a.error_handled.port_error here,
    counted ∙ untold (nobody laws port replies old new k ready r looks kept (λ failed. nowhere port (subst (λ (t : PortError). Contains (fatal_of port t shown) port) failed here))),
  )
    where
      shows : Contains (named_if (shows_fatal shown) port) port → Contains (named_if (shows_failure shown) port) port
      shows there = is_named_if (shows_failure shown) port (failure_shows shown (inl (unfatal shown (named_if_is (shows_fatal shown) port there))))

      is_failure : (t : PortError) → Contains (fatal_of port t shown) port → Contains (failed_of port t shown) port
      is_failure FatalError there = first_here port []
      is_failure TaskFileError there = first_here port []
      is_failure LinkChanged there = shows there
      is_failure TimedOut there = shows there

  -- ---- all of it

  pub serves_ready : a.error_handled.port_error ≢ TimedOut → ServicesReadyPort (abstract_state_of old m) (evidence_by a) d.steps (abstract_state_of new (after m d.steps)) port
  serves_ready unhung = record {
    answers_ok_what_had_ended = heeding laws port replies old new k ready r looks kept evident m reached is d;
    link_change_leaves_none = λ here. d.emptied (gone_is port shown a.error_handled.port_error unhung here);
    link_change_tells_alike = λ here. d.told (gone_is port shown a.error_handled.port_error unhung here);
    trouble_stops_or_sticks = λ _. interrupted laws port replies old new k ready r looks kept;
    error_or_stop_leaves_no_old_issue = λ _. anew;
    one_fault_at_most = single;
    fatal_tells_no_fault = fatal;
    shown_disk_was_in_or_came = evident.had m is d.steps d.backed;
    is_left_alone_if_calm = inl disturbed;
  }
    where
      disturbed : ShowsErrorOrLinkOrDiskChange (evidence_by a) d.steps port
      disturbed = ⊎_elim
          (λ lost. inr (inl (subst (λ (t : PortError). Contains (gone_of port t shown) port) (sym lost) (first_here port []))))
          (λ other. inl (failed_named laws port replies old new k ready r looks kept unhung other))
          (lost_or_not a.error_handled.port_error)
