-- From a machine that stands for the server, the step that revokes the grant, and the answers of those that waited under it, lead to one that stands for the server after them.
use Rattle.std.proofs.Common.{ℕ, ◌≡◌, ◌≢◌, ◌++◌, false, List, [], ◌∷◌, append-nil, get_or, Option, None, inl, inr, refl, sym, ap, ◌∙◌, subst, ⊎_elim}
use Rattle.std.specs.List.{All, Contains, list_any}
use Rattle.std.proofs.lemmas.Bool.{cases_eq, false≢true}
use Rattle.std.proofs.lemmas.List.Elements.{All-contains, All-contains_itself, All-weaker, Contains-append_cases, Contains-append_left}
use Rattle.std.specs.List.Sorted.{IsPermutation}
use Rattle.server_history.proofs.state.ListMembers.{contains_cases}
use Rattle.ata_types.specs.declared.Port.{Port}
use Rattle.ata_types.specs.declared.grant.GrantRow.{GrantRow}
use Rattle.ata_types.specs.declared.request.ClientId.{ClientId}
use Rattle.ata_types.specs.declared.request.Frame.{Frame}
use Rattle.ata_types.specs.declared.request.Outcome.{Outcome}
use Rattle.ata_types.specs.declared.request.Outcome.TheVariants.{Revoked}
use Rattle.ata_types.specs.declared.request.Reply.{Reply}
use Rattle.ata_types.specs.declared.request.RequestId.{RequestId}
use Rattle.adapter.specs.declared.access.DeviceStep.{DeviceStep}
use Rattle.refinement.specs.Fragments.{driver_state_of}
use Rattle.refinement.specs.Driver.{HasNoSlot, TapeBacksSteps, DriverState}
use Rattle.block_machine.specs.Events.{AnswersLawfulAndWaitsOnStoppedPorts, AllEnabled, AreStepsOfCall, IsLawfulAnswer, IssueIsLastOfRequest, AbstractState, RevokeOf, RepliesMatch, answers_of, issues_id}
use Rattle.block_machine.specs.Histories.{IsReachable}
use Rattle.block_machine.specs.Expected.{after}
use Rattle.block_machine.specs.Ports.{Evidence, Ports}
use Rattle.block_machine.specs.Rules.{HasRow, IsSameGrantName, without_row}
use Rattle.block_machine.specs.State.{Machine, Pending}
use Rattle.block_machine.specs.Steps.{Step, WaitAgain, Answer, Revoke, after_step}
use Rattle.host_boot.specs.TakeOver.{probe_result_of}
use Rattle.request_queue.specs.BookEntries.{BookEntry, IsWellFormedEntry, BookIsWellFormed, unanswered_of}
use Rattle.request_queue.specs.BookRelation.{BookRelation, EntryRelation}
use Rattle.request_queue.specs.declared.disposition.Disposition.TheVariants.{Complete, Requeue}
use Rattle.server_history.specs.Prerequisites.{PrerequisiteLaws}
use Rattle.server_history.specs.ResolvedRequests.{IsResolveStep, AreResolvable, AreResolvedInMachine}
use Rattle.server_history.specs.ErrorHandling.{book_and_loans_of}
use Rattle.server_history.specs.Revoking.{with_grant_revoked}
use Rattle.server_history.specs.ServerState.{KeptRequestsRelation, RevokedMarkInvariant, MachineRelation, ServerState}
use Rattle.server_history.proofs.any_turn.JoinedParts.{answers_append}
use Rattle.server_history.proofs.any_turn.TurnsInOrder.{belong_join, lawful_join}
use Rattle.server_history.proofs.dispositions.MetFates.{meet, nobody}
use Rattle.server_history.proofs.dispositions.RemainingBook.{IsLeft, fated, marked_as}
use Rattle.server_history.proofs.healthy_turn.CallPart.{none_last}
use Rattle.server_history.proofs.plain_calls.AcceptableRequests.{on_its_port}
use Rattle.server_history.proofs.plain_calls.IssueRounds.{any_append, or_none}
use Rattle.server_history.proofs.recovery_turn.MendedMachine.{deciding_leaves, fates_owners}
use Rattle.server_history.proofs.recovery_turn.SparedPorts.{IsNoneOf, fates_apart, none_of_one}
use Rattle.block_machine.specs.DueRequests.{requests_of_port}
use Rattle.server_history.proofs.revoke_call.RevokedEach.{RevokesEach, ends_revoked, waiting_under, with_revoked}
use Rattle.server_history.proofs.revoke_call.RevokedBook.{WaitsUnder, earlier, fit, in_requests, mark_is, of_requests, tells, true_mark, was_there}
use Rattle.server_history.proofs.state.AnswerSteps.{IsAnswerOf, answer_told, answered_or_left, answered_stood, answers_belong, answers_issue_none, answers_lawful}
use Rattle.server_history.proofs.state.FirstMembers.{nowhere}
use Rattle.server_history.proofs.state.PairedLists.{at_left, at_right}
use Rattle.server_history.proofs.state.RevokedMarks.{tells_of}

-- ---- its steps

-- one that waited is told Revoked
abbrev pub IsRevoked : Pending → Outcome → Type 0
IsRevoked e o = (o ≡ Revoked) × (e.issued ≡ false)

-- What it needs of the server's book, and of a machine: this is so whether or not the adapter is on.
pub record MayRevoke (s : ServerState) (m : Machine) : Type 0 where
  pub ordered : BookIsWellFormed s.book
  pub accepted : All (IsWellFormedEntry s.table) s.book
  pub marked : All (RevokedMarkInvariant s.grants) s.book
  pub reached : IsReachable m
  pub stands : MachineRelation s m

module _ (laws : PrerequisiteLaws) (s : ServerState) (client : ClientId) (number : ℕ) (replies : List Reply) (mid : ServerState) (r : RevokesEach client number replies s mid) (m : Machine) (may_revoke : MayRevoke s m) where
  abbrev is : MachineRelation s m
  is = may_revoke.stands

  abbrev reached : IsReachable m
  reached = may_revoke.reached

  abbrev ordered : BookIsWellFormed s.book
  ordered = may_revoke.ordered

  abbrev accepted : All (IsWellFormedEntry s.table) s.book
  accepted = may_revoke.accepted

  abbrev marked : All (RevokedMarkInvariant s.grants) s.book
  marked = may_revoke.marked

  abbrev old : ServerState
  old = with_grant_revoked client number s

  abbrev port : Port
  port = r.has.0.port

  abbrev requests : List BookEntry
  requests = waiting_under client number old.book

  -- the server then
  abbrev new : ServerState
  new = with_revoked client number mid.table r.now.book s

  -- once the row is gone
  abbrev n : Machine
  n = after_step m (Revoke client number)

  pub row_there : Contains m.rows r.has.0
  row_there = subst (λ (rows : List GrantRow). Contains rows r.has.0) (sym is.rows) r.has.1

  abbrev pub has_row : HasRow client number m.rows
  has_row = (r.has.0, row_there, r.has.2)

  n_reached : IsReachable n
  n_reached = laws.steps_and_accesses.reachable_stays_reachable m (Revoke client number ∷ []) reached (tt, has_row)

  n_rows : n.rows ≡ old.grants
  n_rows = ap (without_row client number) is.rows

  n_book : BookRelation old.book n.book
  n_book = laws.revoke_keeps_book_relation s.book m client number is.book

  abbrev k : DriverState
  k = driver_state_of is.uses is.awaiting_disposition s.device

  -- those that wait under the grant are on its port
  its_port : (e : BookEntry) → Contains requests e → e.request.port ≡ port
  its_port e there =
      let w = of_requests client number s e there in
      let p = at_left EntryRelation old.book n.book n_book e w.0 in
      sym p.2.port ∙ on_its_port laws.frame_holders m reached p.0 p.1 r.has.0 row_there (r.has.2.0 ∙ sym w.1.client_is ∙ sym p.2.client, r.has.2.1 ∙ sym w.1.grant_is ∙ sym p.2.grant)

  pub here : (e : BookEntry) → Contains requests e → Contains old.book e × (e.request.port ≡ port)
  here e there = ((of_requests client number s e there).0, its_port e there)

  old_ordered : BookIsWellFormed old.book
  old_ordered = laws.marking_keeps_book_well_formed s.book client number ordered

  old_accepted : All (IsWellFormedEntry s.table) old.book
  old_accepted = laws.marking_keeps_entries_well_formed s.table s.book client number accepted

  unserved : (e : BookEntry) → Contains requests e → HasNoSlot is.uses e.request.id
  unserved e there =
      let w = of_requests client number s e there in
      let p = at_left EntryRelation old.book n.book n_book e w.0 in
      subst (HasNoSlot is.uses) p.2.id (laws.slots.waiting_has_no_slot is.uses m s.device reached is.driver_relation.state_relation p.0 p.1 (p.2.issued ∙ w.1.waits))

  may_meet : AreResolvable port ends_revoked requests (book_and_loans_of port old) k n
  may_meet = record {
    reached = n_reached;
    driver_relation = laws.slots.revoked_agrees k m client number is.driver_relation;
    book_relation = n_book;
    loans_agree = is.lent;
    book_is_well_formed = old_ordered;
    entries_are_well_formed = old_accepted;
    are_in_book_of_port = here;
    revoked_marks_agree = λ e there. tells_of n.rows old.grants e.request n_rows (tells client number s marked e (here e there).0);
    are_in_order = earlier client number s old_ordered;
    released_have_no_slot = λ e there never. unserved e there;
  }

  pub met : AreResolvedInMachine port ends_revoked requests replies (book_and_loans_of port old) r.now k n
  met = meet laws port ends_revoked requests (fit client number s) replies (book_and_loans_of port old) r.now k n may_meet r.meets

  abbrev z : Machine
  z = after n met.steps

  pub left : IsLeft port ends_revoked requests (book_and_loans_of port old) r.now
  left = fated laws port ends_revoked requests (fit client number s) replies (book_and_loans_of port old) r.now
      (record { here = here; earlier = earlier client number s old_ordered; ordered = old_ordered; accepted = old_accepted }) r.meets

  -- each request that is left was in the book before
  pub before : (e : BookEntry) → Contains r.now.book e → (was : BookEntry) × Contains s.book was × (e.request.id ≡ was.request.id) × (e.request.port ≡ was.request.port) × (e.request.op ≡ was.request.op)
  before e there =
      let w = left.from e there in
      let b = was_there client number s w.was w.there in
      let mark = mark_is client number s w.was w.there in
      (b.0, b.1, w.id ∙ mark.id, w.port ∙ mark.port, w.op ∙ mark.op)

  pub each_left : (P : BookEntry → Type 0) → ((e : BookEntry) → Contains r.now.book e → P e) → All P r.now.book
  each_left P each = All-weaker (Contains r.now.book) P each r.now.book (All-contains_itself r.now.book)

  -- who is left wasn't told so
  left_other : (e : BookEntry) (there : Contains r.now.book e) → WaitsUnder client number (left.from e there).was.request → ⊥
  left_other e there waits =
      let w = left.from e there in
      left.gone w.was Revoked (in_requests client number s w.was w.there waits) refl e there w.id

  pub marked_then : All (RevokedMarkInvariant old.grants) r.now.book
  marked_then = each_left (RevokedMarkInvariant old.grants) (λ e there.
      let w = left.from e there in
      marked_as old.grants old.book e w (true_mark client number s marked w.was w.there (left_other e there)))

  -- ---- the machine then

  none_held : met.newly_kept ≡ []
  none_held = nobody met.newly_kept (λ e there. false≢true (met.newly_kept_are_of_requests e there).3)

  same_kept : z.kept ≡ m.kept
  same_kept = met.newly_kept_are_kept ∙ ap (λ (held : List Pending). held ++ m.kept) none_held

  leaves : (z.rows ≡ n.rows) × ((frame : Frame) → z.owner frame ≡ n.owner frame) × (z.next_id ≡ n.next_id)
  leaves = deciding_leaves port n met.steps met.steps_are_of_port

  stands_z : MachineRelation new z
  stands_z = record {
    uses = is.uses;
    slot_states_agree_unless_dead = is.slot_states_agree_unless_dead;
    awaiting_disposition = met.parked;
    only_dead_ports_park = λ q alive. ⊎_elim
        (λ (same : q ≡ port.0).
        ap met.parked same
        ∙ nobody (met.parked port.0) (λ id there.
        nowhere id (subst (λ (ids : List RequestId). Contains ids id) (is.only_dead_ports_park port.0 (λ dead. alive (ap (probe_result_of s.probe_results) same ∙ dead))) (met.parked_was_parked_and_not_freed id there).0)))
        (λ (other : q ≢ port.0). met.parked_of_others_is_kept q other ∙ is.only_dead_ports_park q alive)
        (cases_eq q port.0);
    driver_relation = met.driver_relation;
    book = met.book;
    quarantine_relation = subst (KeptRequestsRelation s.probe_results s.kept_loans) (sym same_kept) is.quarantine_relation;
    rows = leaves.0 ∙ n_rows;
    owner = λ frame. leaves.1 frame ∙ is.owner frame ∙ ap (λ (owners : List (Option ClientId)). get_or owners frame.0 None) (sym (r.lends.owners_are_kept ∙ fates_owners ends_revoked requests replies (book_and_loans_of port old) r.now r.meets));
    lent = λ frame. met.loans_agree frame ∙ sym (r.lends.others_are_kept frame (nowhere frame));
    next_id_is = leaves.2 ∙ is.next_id_is;
  }

  -- ---- the steps

  abbrev pub steps : List Step
  steps = met.steps ++ Revoke client number ∷ []

  its_step : (step : Step) → Contains met.steps step → IsResolveStep port step → IsAnswerOf IsRevoked step
  its_step (Answer e o) there own =
      let x = met.answers_are_as_decided e o there in
      let same : Complete Revoked ≡ Complete o = x.3 in
      let is : o ≡ Revoked = cc in
      (is, x.2.issued ∙ (of_requests client number s x.0 x.1).1.waits)
  its_step (WaitAgain e) there own = let x = met.requeues_are_as_decided e there in let same : Complete Revoked ≡ Requeue = x.3 in absurd cc
  its_step step there own = absurd own

  all_answers : All (IsAnswerOf IsRevoked) met.steps
  all_answers = All-weaker (Contains met.steps) (IsAnswerOf IsRevoked) (λ step there. its_step step there (All-contains (IsResolveStep port) met.steps step met.steps_are_of_port there)) met.steps (All-contains_itself met.steps)

  joined : after m steps ≡ z
  joined = laws.steps_and_accesses.after_joins m met.steps (Revoke client number ∷ [])

  pub may : AllEnabled m steps
  may = laws.steps_and_accesses.enabled_lists_join m met.steps (Revoke client number ∷ []) (tt, has_row) met.steps_are_enabled

  pub stands : MachineRelation new (after m steps)
  stands = subst (MachineRelation new) (sym joined) stands_z

  pub reached_then : IsReachable (after m steps)
  reached_then = laws.steps_and_accesses.reachable_stays_reachable m steps reached may

  -- what is asked of another port is as it was
  pub apart : (q : Port) → q ≢ port → requests_of_port q (unanswered_of r.now.book) ≡ requests_of_port q (unanswered_of s.book)
  apart q ne =
      fates_apart laws q ends_revoked requests replies (book_and_loans_of port old) r.now r.meets
      (All-weaker (Contains requests) (λ (e : BookEntry). IsNoneOf q e.request.id (unanswered_of old.book)) (λ e there. none_of_one laws q port old.book ne old_ordered e (here e there)) requests (All-contains_itself requests))
      ∙ ap (requests_of_port q) (laws.unanswered_after_marking s.book client number)

  pub backed : TapeBacksSteps s.device s.device m steps
  backed = laws.backed_parts_join s.device s.device s.device m (Revoke client number ∷ []) met.steps (laws.drivers_own_step_is_backed s.device m (Revoke client number) (λ none. none)) (met.backed s.device)

  pub belong : (ports : Ports) → AreStepsOfCall {D = DeviceStep} (RevokeOf client number) ports steps
  belong ports = belong_join (RevokeOf client number) ports met.steps (Revoke client number ∷ [])
      (answers_belong IsRevoked (RevokeOf client number) ports (λ e o told. told.0) met.steps all_answers) (tt, inr (refl, refl))

  pub issue_none : (id : RequestId) → list_any (issues_id id) steps ≡ false
  issue_none id = any_append (issues_id id) met.steps (Revoke client number ∷ []) ∙ or_none (list_any (issues_id id) met.steps) ∙ answers_issue_none IsRevoked id met.steps all_answers

  pub last : IssueIsLastOfRequest steps
  last = none_last steps issue_none

  pub lawful : (then_at : AbstractState) (evidence : Evidence) (ports : Ports) → AnswersLawfulAndWaitsOnStoppedPorts then_at evidence ports steps
  lawful then_at evidence ports = lawful_join then_at evidence ports met.steps (Revoke client number ∷ [])
      (answers_lawful IsRevoked then_at evidence ports (λ e o told. told_lawful e o told.0 told.1) met.steps all_answers) tt
    where
      told_lawful : (e : Pending) (o : Outcome) → o ≡ Revoked → e.issued ≡ false → IsLawfulAnswer then_at evidence ports e o
      told_lawful e o is waits = subst (IsLawfulAnswer then_at evidence ports e) (sym is) (inl waits)

  pub tells_replies : RepliesMatch steps replies
  tells_replies = record { answers = met.replies_match.answers; is_permutation = subst (IsPermutation met.replies_match.answers) (sym (answers_append met.steps (Revoke client number ∷ []) ∙ append-nil (answers_of met.steps))) met.replies_match.is_permutation; ordered = met.replies_match.ordered; replies_are_of_answers = met.replies_match.replies_are_of_answers }

  -- ---- who is answered

  answered_first : (e : Pending) (o : Outcome) → Contains steps (Answer e o) → Contains met.steps (Answer e o)
  answered_first e o there = ⊎_elim
      (λ (early : Contains met.steps (Answer e o)). early)
      (λ (revoke : Contains (Revoke client number ∷ []) (Answer e o)). ⊎_elim
      (λ (same : Answer e o ≡ Revoke client number). absurd (let y : Answer e o ≡ Revoke client number = same in cc))
      (λ none. absurd (nowhere (Answer e o) none))
      (contains_cases (Revoke client number) [] (Answer e o) revoke))
      (Contains-append_cases met.steps (Revoke client number ∷ []) (Answer e o) there)

  pub only : (e : Pending) (o : Outcome) → Contains steps (Answer e o) → Contains m.book e × (e.issued ≡ false) × IsSameGrantName client number e.request.asked.client e.request.asked.grant
  only e o there =
      let first = answered_first e o there in
      let x = met.answers_are_as_decided e o first in
      let w = (of_requests client number s x.0 x.1).1 in (
        answered_stood IsRevoked n met.steps all_answers met.steps_are_enabled e o first,
        (answer_told IsRevoked met.steps all_answers e o first).1,
        (x.2.client ∙ w.client_is, x.2.grant ∙ w.grant_is),
      )

  pub all : (e : Pending) → Contains m.book e → e.issued ≡ false → IsSameGrantName client number e.request.asked.client e.request.asked.grant → Contains steps (Answer e Revoked)
  all e there waits its = Contains-append_left met.steps (Revoke client number ∷ []) (Answer e Revoked) (⊎_elim told never (answered_or_left IsRevoked n met.steps all_answers e there))
    where
      told : (x : Pending) × (o : Outcome) × Contains met.steps (Answer x o) × (x.request.id.0 ≡ e.request.id.0) → Contains met.steps (Answer e Revoked)
      told (x, o, here, same) =
          let one : x ≡ e = laws.steps_and_accesses.an_id_is_one_request m reached x e (answered_stood IsRevoked n met.steps all_answers met.steps_are_enabled x o here) there same in
          subst (λ (y : Pending). Contains met.steps (Answer y Revoked)) one
          (subst (λ (p : Outcome). Contains met.steps (Answer x p)) (answer_told IsRevoked met.steps all_answers x o here).0 here)

      never : Contains z.book e → Contains met.steps (Answer e Revoked)
      never still =
          let h = at_right EntryRelation r.now.book z.book met.book e still in
          let w = left.from h.0 h.1 in
          let a = at_right EntryRelation old.book n.book n_book e there in
          let one : w.was ≡ a.0 = laws.an_id_is_one_entry old.book w.was a.0 old_ordered w.there a.1 (sym w.id ∙ sym h.2.id ∙ a.2.id) in
          absurd (left_other h.0 h.1 (subst (λ (y : BookEntry). WaitsUnder client number y.request) (sym one)
          (record { waits = sym a.2.issued ∙ waits; client_is = sym a.2.client ∙ its.0; grant_is = sym a.2.grant ∙ its.1 })))
