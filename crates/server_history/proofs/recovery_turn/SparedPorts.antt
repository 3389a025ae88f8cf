-- What a turn that mends its port leaves of the other ports.
use Rattle.std.proofs.Common.{ℕ, ◌≡◌, ◌≢◌, ◌==◌, Bool, true, false, not, cond, List, [], ◌∷◌, filter, get_or, set, None, Some, refl, sym, ap, ◌∙◌, subst, ⊎_elim}
use Rattle.std.specs.List.{All, Contains}
use Rattle.std.proofs.lemmas.Bool.{cases_Bool, cond-false, cond-true, eqb-true, ne_eqb}
use Rattle.std.proofs.lemmas.List.{get_or-set_other}
use Rattle.std.proofs.lemmas.List.Elements.{All-contains, All-contains_itself, All-filter, All-head, All-map, All-tail, All-weaker, filter_passes}
use Rattle.ata_types.specs.declared.Port.{Port}
use Rattle.ata_types.specs.declared.request.Reply.{Reply}
use Rattle.ata_types.specs.declared.request.RequestId.{RequestId}
use Rattle.block_machine.specs.DueRequests.{mark_waiting, requests_of_port, without_request, with_waiting}
use Rattle.block_machine.specs.declared.due.Unanswered.{Unanswered}
use Rattle.server_history.proofs.state.ListMembers.{map_in}
use Rattle.host_boot.specs.declared.ProbeResult.TheVariants.{Unserved}
use Rattle.request_queue.specs.BookEntries.{BookEntry, BookIsWellFormed, as_unanswered, unanswered_of, due_ids, is_of_port}
use Rattle.request_queue.specs.Dispositions.{BookAndLoans, AreResolved, IsResolved, disposition_of}
use Rattle.request_queue.specs.declared.PendingRequest.{PendingRequest}
use Rattle.request_queue.specs.declared.disposition.Disposition.{Disposition}
use Rattle.request_queue.specs.declared.disposition.Disposition.TheVariants.{Complete, Requeue, Wait}
use Rattle.server_history.specs.Prerequisites.{PrerequisiteLaws}
use Rattle.server_history.specs.ErrorHandling.{IsErrorHandled, HasResolved, HandlesPortError, book_and_loans_of, requests_of}
use Rattle.server_history.specs.ServerState.{ServerState, InCallInvariant, mode_in, no_slots, plain_mode, slots_at}
use Rattle.server_history.specs.Turns.{LeavesOtherPortsGrantsAndLastId}
use Rattle.server_history.proofs.plain_calls.IssueRounds.{each_apart, each_settings, each_slots}
use Rattle.server_history.proofs.healthy_turn.AnswersAndIssues.{answers_apart, answers_order, answers_settings, answers_slots}

-- ---- requests of another port

-- the request of this id isn't of the port
abbrev pub IsNoneOf : Port → RequestId → List Unanswered → Type 0
IsNoneOf q id list = All (λ r. r.port ≡ q → r.id ≢ id) list

-- whose the requests are that pass
passing : (q : Port) (r : Unanswered) → (r.port.0 == q.0) ≡ true → r.port ≡ q
passing q r is = ap (λ (n : ℕ). record { 0 = n }) (eqb-true r.port.0 q.0 is)

module _ (q : Port) (id : RequestId) where
  abbrev its : Unanswered → Bool
  its r = r.port.0 == q.0

  -- one that waits again is of its port still
  still_of : (r : Unanswered) → ((mark_waiting id r).port ≡ r.port) × ((mark_waiting id r).id ≡ r.id)
  still_of r = by (r.id.0 == id.0)
    where
      by : (b : Bool) → ((cond b (record r { issued = false }) r).port ≡ r.port) × ((cond b (record r { issued = false }) r).id ≡ r.id)
      by true = (refl, refl)
      by false = (refl, refl)

  same_waiting : (r : Unanswered) → r.id ≢ id → mark_waiting id r ≡ r
  same_waiting r other = cond-false (r.id.0 == id.0) (record r { issued = false }) r (ne_eqb r.id.0 id.0 (λ is. other (ap (λ (n : ℕ). record { 0 = n }) is)))

  waiting_apart : (list : List Unanswered) → IsNoneOf q id list → requests_of_port q (with_waiting id list) ≡ requests_of_port q list
  waiting_apart [] none = refl
  waiting_apart (r ∷ list) none =
      let more : requests_of_port q (with_waiting id list) ≡ requests_of_port q list = waiting_apart list (All-tail (λ r. r.port ≡ q → r.id ≢ id) r list none) in
      ⊎_elim
      (λ (here : its r ≡ true).
      let same = same_waiting r (All-head (λ r. r.port ≡ q → r.id ≢ id) r list none (passing q r here)) in
      ap (λ (x : Unanswered). filter its (x ∷ with_waiting id list)) same
      ∙ cond-true (its r) (r ∷ requests_of_port q (with_waiting id list)) (requests_of_port q (with_waiting id list)) here
      ∙ ap (λ (rest : List Unanswered). r ∷ rest) more ∙ sym (cond-true (its r) (r ∷ requests_of_port q list) (requests_of_port q list) here))
      (λ (other : its r ≡ false).
      cond-false (its (mark_waiting id r)) (mark_waiting id r ∷ requests_of_port q (with_waiting id list)) (requests_of_port q (with_waiting id list)) (ap (λ (p : Port). p.0 == q.0) (still_of r).0 ∙ other)
      ∙ more ∙ sym (cond-false (its r) (r ∷ requests_of_port q list) (requests_of_port q list) other))
      (cases_Bool (its r))

  abbrev stays : Unanswered → Bool
  stays r = not (r.id.0 == id.0)

  none_apart : (list : List Unanswered) → IsNoneOf q id list → requests_of_port q (without_request id list) ≡ requests_of_port q list
  none_apart [] none = refl
  none_apart (r ∷ list) none =
      let more : requests_of_port q (without_request id list) ≡ requests_of_port q list = none_apart list (All-tail (λ r. r.port ≡ q → r.id ≢ id) r list none) in
      ⊎_elim
      (λ (here : its r ≡ true).
      let differs = All-head (λ r. r.port ≡ q → r.id ≢ id) r list none (passing q r here) in
      ap (filter its) (cond-true (stays r) (r ∷ without_request id list) (without_request id list) (ap not (ne_eqb r.id.0 id.0 (λ is. differs (ap (λ (n : ℕ). record { 0 = n }) is)))))
      ∙ cond-true (its r) (r ∷ requests_of_port q (without_request id list)) (requests_of_port q (without_request id list)) here
      ∙ ap (λ (rest : List Unanswered). r ∷ rest) more ∙ sym (cond-true (its r) (r ∷ requests_of_port q list) (requests_of_port q list) here))
      (λ (other : its r ≡ false). ⊎_elim
      (λ (left : stays r ≡ true).
      ap (filter its) (cond-true (stays r) (r ∷ without_request id list) (without_request id list) left)
      ∙ cond-false (its r) (r ∷ requests_of_port q (without_request id list)) (requests_of_port q (without_request id list)) other ∙ more ∙ sym (cond-false (its r) (r ∷ requests_of_port q list) (requests_of_port q list) other))
      (λ (gone : stays r ≡ false).
      ap (filter its) (cond-false (stays r) (r ∷ without_request id list) (without_request id list) gone) ∙ more ∙ sym (cond-false (its r) (r ∷ requests_of_port q list) (requests_of_port q list) other))
      (cases_Bool (stays r)))
      (cases_Bool (its r))

  -- and no other request comes to be of the port
  waiting_none : (other : RequestId) (list : List Unanswered) → IsNoneOf q other list → IsNoneOf q other (with_waiting id list)
  waiting_none other list none =
      All-map (λ (r : Unanswered). r.port ≡ q → r.id ≢ other) (mark_waiting id) list
      (All-weaker (λ (r : Unanswered). r.port ≡ q → r.id ≢ other) (λ (r : Unanswered). (mark_waiting id r).port ≡ q → (mark_waiting id r).id ≢ other)
      (λ r is here same. is (sym (still_of r).0 ∙ here) (sym (still_of r).1 ∙ same)) list none)

  none_none : (other : RequestId) (list : List Unanswered) → IsNoneOf q other list → IsNoneOf q other (without_request id list)
  none_none other list none = All-filter stays (λ (r : Unanswered). r.port ≡ q → r.id ≢ other) list none

module _ (laws : PrerequisiteLaws) (q : Port) where
  -- one request met its fate
  one_apart : (e : BookEntry) (disposition : Disposition) (replies : List Reply) (old new : BookAndLoans) → IsResolved e disposition replies old new → IsNoneOf q e.request.id (unanswered_of old.book)
      → (requests_of_port q (unanswered_of new.book) ≡ requests_of_port q (unanswered_of old.book)) × ((id : RequestId) → IsNoneOf q id (unanswered_of old.book) → IsNoneOf q id (unanswered_of new.book))
  one_apart e Wait replies old new meets none =
      let same : unanswered_of new.book ≡ unanswered_of old.book = ap (λ (h : BookAndLoans). unanswered_of h.book) meets.1 in
      (ap (requests_of_port q) same, λ id is. subst (IsNoneOf q id) (sym same) is)
  one_apart e Requeue replies old new meets none =
      let same : unanswered_of new.book ≡ with_waiting e.request.id (unanswered_of old.book) = ap (λ (h : BookAndLoans). unanswered_of h.book) meets.1 ∙ laws.unanswered_after_requeue old.book e.request.id in
      (ap (requests_of_port q) same ∙ waiting_apart q e.request.id (unanswered_of old.book) none, λ id is. subst (IsNoneOf q id) (sym same) (waiting_none q e.request.id id (unanswered_of old.book) is))
  one_apart e (Complete outcome) replies old new meets none =
      let same : unanswered_of new.book ≡ without_request e.request.id (unanswered_of old.book) = ap unanswered_of meets.1 ∙ laws.unanswered_after_answer old.book e.request.id in
      (ap (requests_of_port q) same ∙ none_apart q e.request.id (unanswered_of old.book) none, λ id is. subst (IsNoneOf q id) (sym same) (none_none q e.request.id id (unanswered_of old.book) is))

  -- and so did these
  pub fates_apart : (disposition : PendingRequest → Disposition) (requests : List BookEntry) (replies : List Reply) (old new : BookAndLoans) → AreResolved disposition requests replies old new → All (λ (e : BookEntry). IsNoneOf q e.request.id (unanswered_of old.book)) requests
      → requests_of_port q (unanswered_of new.book) ≡ requests_of_port q (unanswered_of old.book)
  fates_apart disposition [] replies old new meets none = ap (λ (h : BookAndLoans). requests_of_port q (unanswered_of h.book)) meets.1
  fates_apart disposition (e ∷ requests) replies old new (mid, its, later, split, one, more) none =
      let x = one_apart e (disposition e.request) its old mid one (All-head (λ (e : BookEntry). IsNoneOf q e.request.id (unanswered_of old.book)) e requests none) in
      fates_apart disposition requests later mid new more
      (All-weaker (λ (e : BookEntry). IsNoneOf q e.request.id (unanswered_of old.book)) (λ (e : BookEntry). IsNoneOf q e.request.id (unanswered_of mid.book)) (λ e is. x.1 e.request.id is) requests
      (All-tail (λ (e : BookEntry). IsNoneOf q e.request.id (unanswered_of old.book)) e requests none))
      ∙ x.0

  -- no request of one port has the id of one of another
  pub none_of_one : (port : Port) (book : List BookEntry) → q ≢ port → BookIsWellFormed book → (e : BookEntry) → Contains book e × (e.request.port ≡ port) → IsNoneOf q e.request.id (unanswered_of book)
  none_of_one port book ne order e its = All-weaker (Contains (unanswered_of book)) (λ (r : Unanswered). r.port ≡ q → r.id ≢ e.request.id) (λ r there is same.
      let y = map_in (λ (x : BookEntry). as_unanswered x.request) book r there in
      let one : y.0 ≡ e = laws.an_id_is_one_entry book y.0 e order y.1 its.0 (sym (ap (λ (u : Unanswered). u.id) y.2) ∙ same) in
      ne (sym is ∙ ap (λ (u : Unanswered). u.port) y.2 ∙ ap (λ (x : BookEntry). x.request.port) one ∙ its.1)) (unanswered_of book) (All-contains_itself (unanswered_of book))

  pub none_of_port : (port : Port) (book : List BookEntry) → q ≢ port → BookIsWellFormed book → All (λ (e : BookEntry). IsNoneOf q e.request.id (unanswered_of book)) (requests_of port book)
  none_of_port port book ne order =
      All-weaker (Contains (requests_of port book)) (λ (e : BookEntry). IsNoneOf q e.request.id (unanswered_of book)) (λ e here. none_of_one port book ne order e (booked e here, its_port e here)) (requests_of port book)
      (All-contains_itself (requests_of port book))
    where
      its_port : (e : BookEntry) → Contains (requests_of port book) e → e.request.port ≡ port
      its_port e here = ap (λ (n : ℕ). record { 0 = n }) (eqb-true e.request.port.0 port.0 (All-contains (λ (x : BookEntry). is_of_port port x.request ≡ true) (requests_of port book) e (filter_passes (λ (x : BookEntry). is_of_port port x.request) book) here))

      booked : (e : BookEntry) → Contains (requests_of port book) e → Contains book e
      booked e here = All-contains (Contains book) (requests_of port book) e (All-filter (λ (x : BookEntry). is_of_port port x.request) (Contains book) book (All-contains_itself book)) here

-- ---- the whole

module _ (laws : PrerequisiteLaws) (port : Port) (replies : List Reply) (old new : ServerState) (k : InCallInvariant old) (r : HandlesPortError port replies old new) (kept : InCallInvariant r.server_after_resolving) where
  abbrev a : HasResolved port r.later_replies old r.server_after_resolving
  a = r.has_resolved

  abbrev x : IsErrorHandled port old a.server_after_handling a.device_after_handling
  x = a.error_handled

  abbrev from : ServerState
  from = record old { device = x.device_after_read }

  abbrev ids : List RequestId
  ids = due_ids (mode_in r.server_after_resolving port) port (unanswered_of r.server_after_resolving.book)

  -- but for device, loans, slots and book, the server was as before while requests were answered that were done
  answered_as : a.server_after_handling ≡ record from { table = a.server_after_handling.table; slots = a.server_after_handling.slots; book = a.server_after_handling.book }
  answered_as = answers_settings laws port x.done x.requests from a.server_after_handling x.answers_each

  issued_as : new ≡ record r.server_after_resolving { device = new.device; slots = new.slots; book = new.book }
  issued_as = each_settings laws port ids r.server_after_resolving new r.issued

  other_of : {X : Type 0} (list : ServerState → List X) (d : X) (put : X) → list r.server_after_resolving ≡ set (list a.server_after_handling) port.0 put → list new ≡ list r.server_after_resolving → list a.server_after_handling ≡ list old → (q : ℕ) → q ≢ port.0 → get_or (list new) q d ≡ get_or (list old) q d
  other_of {X} list d put is later early q ne =
      ap (λ (xs : List X). get_or xs q d) (later ∙ is) ∙ get_or-set_other (list a.server_after_handling) port.0 q put d ne ∙ ap (λ (xs : List X). get_or xs q d) early

  pub leaves_others : LeavesOtherPortsGrantsAndLastId port old new
  leaves_others = record {
    grants = ap (λ (n : ServerState). n.grants) issued_as ∙ ap (λ (n : ServerState). n.grants) a.server_is ∙ ap (λ (n : ServerState). n.grants) answered_as;
    wanted = ap (λ (n : ServerState). n.wanted) issued_as ∙ ap (λ (n : ServerState). n.wanted) a.server_is ∙ ap (λ (n : ServerState). n.wanted) answered_as;
    last_id = ap (λ (n : ServerState). n.last_id) issued_as ∙ ap (λ (n : ServerState). n.last_id) a.server_is ∙ ap (λ (n : ServerState). n.last_id) answered_as;
    other_probe_results_are_same = other_of (λ (n : ServerState). n.probe_results) Unserved a.found (ap (λ (n : ServerState). n.probe_results) a.server_is) (ap (λ (n : ServerState). n.probe_results) issued_as) (ap (λ (n : ServerState). n.probe_results) answered_as);
    other_remembered_are_same = other_of (λ (n : ServerState). n.remembered) None (Some a.disk_before) (ap (λ (n : ServerState). n.remembered) a.server_is) (ap (λ (n : ServerState). n.remembered) issued_as) (ap (λ (n : ServerState). n.remembered) answered_as);
    other_modes_are_same = other_of (λ (n : ServerState). n.modes) plain_mode a.mode (ap (λ (n : ServerState). n.modes) a.server_is) (ap (λ (n : ServerState). n.modes) issued_as) (ap (λ (n : ServerState). n.modes) answered_as);
    other_slots_are_same = λ q ne. each_slots laws port ids r.server_after_resolving new r.issued q ne ∙ ap (λ (n : ServerState). slots_at n.slots q) a.server_is ∙ get_or-set_other a.server_after_handling.slots port.0 q a.slots no_slots ne
        ∙ answers_slots laws port x.done x.requests from a.server_after_handling x.answers_each q ne;
    others_requests_are_same = λ q ne.
        each_apart laws port ids r.server_after_resolving new kept.book_is_well_formed r.issued q ne
        ∙ ap (λ (n : ServerState). requests_of_port q (unanswered_of n.book)) a.server_is
        ∙ fates_apart laws q (disposition_of a.failed a.revalidation) (requests_of port a.server_after_handling.book) r.later_replies (book_and_loans_of port a.server_after_handling) a.book_and_loans_after a.are_resolved (none_of_port laws q port a.server_after_handling.book ne (answers_order laws port x.done x.requests from a.server_after_handling k.book_is_well_formed x.answers_each))
        ∙ answers_apart laws port x.done x.requests from a.server_after_handling k.book_is_well_formed x.answers_each q ne;
  }
