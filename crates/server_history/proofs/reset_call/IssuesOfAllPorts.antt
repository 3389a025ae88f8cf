-- What is due is issued on each ready port, one after another; and then nothing is due.
use Rattle.std.proofs.Common.{Bool, List, [], ap, arith, false, if◌then◌else◌, length, map, refl, subst, suc, sym, true, ℕ, ⊎_elim, ◌++◌, ◌+◌, ◌<◌, ◌||◌, ◌∙◌, ◌∷◌, ◌≡◌, ◌≢◌, ◌≤◌}
use Rattle.std.proofs.lemmas.Bool.{cases_Bool, cases_eq, cases_lt, false≢true}
use Rattle.std.proofs.lemmas.List.Elements.{All-append, All-cons, All-nil}
use Rattle.std.specs.List.{All, Contains, list_any}
use Rattle.refinement.specs.Relation.{port_at}
use Rattle.refinement.specs.Driver.{TapeBacksSteps}
use Rattle.ata_types.specs.declared.Port.{Port}
use Rattle.ata_types.specs.declared.PortState.TheVariants.{Absent, Ready as ReadyState}
use Rattle.ata_types.specs.declared.request.RequestId.{RequestId}
use Rattle.server_history.proofs.state.ListMembers.{map_in}
use Rattle.block_machine.specs.DueRequests.{NoneDue, due_of, requests_of_port}
use Rattle.block_machine.specs.Events.{AllEnabled, IsByDevice, IsIssuedIn, IssueIsLastOfRequest, issues_id}
use Rattle.block_machine.specs.Histories.{IsReachable}
use Rattle.block_machine.specs.Expected.{after}
use Rattle.block_machine.specs.Ports.{Ports}
use Rattle.block_machine.specs.State.{Machine, unanswered}
use Rattle.block_machine.specs.Steps.{Issue, Step}
use Rattle.block_machine.specs.declared.due.QueueMode.{QueueMode}
use Rattle.block_machine.specs.declared.due.Unanswered.{Unanswered}
use Rattle.driver_history.specs.Histories.{IssuesDue}
use Rattle.host_boot.specs.TakeOver.{probe_result_of}
use Rattle.host_boot.specs.declared.ProbeResult.{ProbeResult}
use Rattle.host_boot.specs.declared.ProbeResult.TheVariants.{Ready, Unready, Unserved}
use Rattle.identify.specs.declared.DiskInfo.{DiskInfo}
use Rattle.request_queue.specs.BookEntries.{BookEntry, as_unanswered, unanswered_of, update_if_id, due_ids, has_id, issued_request}
use Rattle.server_history.proofs.state.DueRequests.{same_book}
use Rattle.server_history.proofs.any_turn.JoinedParts.{ready_or_not}
use Rattle.server_history.proofs.recovery_turn.CallPart.{none_due_unready}
use Rattle.server_history.proofs.dispositions.RemainingBook.{WasIn, was_itself, was_more}
use Rattle.server_history.proofs.plain_calls.IssueRounds.{AreIssued, ArePutInSlots, any_append, are_put, dues, dues_carried, each_apart, each_done, each_issued, each_kept, each_settings, issued_parts, last_on, or_none}
use Rattle.server_history.proofs.state.PortSlots.{ready_found}
use Rattle.server_history.specs.Prerequisites.{PrerequisiteLaws}
use Rattle.server_history.specs.Resets.{IssuesOnEachReadyPort}
use Rattle.ncq.specs.Batches.{PlacedTask}
use Rattle.server_history.specs.IssuingAndAnswering.{AllByDeviceOrIssue, IssuesDueOfPort, IssuesTogetherIfAny, PutsInSlots}
use Rattle.server_history.specs.ServerState.{InCallInvariant, MachineRelation, InvariantWithNoneDue, ServerState, mode_in, ports_of, state_of}

-- the step is the device's, or issues a request of a ready port in the port's mode
abbrev pub IsReissue : Ports → Step → Type 0
IsReissue ports (Issue mode e) = (ports.state e.request.port ≡ ReadyState) × (ports.mode e.request.port ≡ mode)
IsReissue ports step = IsByDevice step

reissue_device : (ports : Ports) (step : Step) → IsByDevice step → IsReissue ports step
reissue_device ports (Issue mode e) is = absurd is
reissue_device ports step is = is

only_reissues : (ports : Ports) (mode : QueueMode) (port : Port) → ports.state port ≡ ReadyState → ports.mode port ≡ mode → (steps : List Step) → AllByDeviceOrIssue mode port steps → All (IsReissue ports) steps
only_reissues ports mode port ready its [] only = All-nil (IsReissue ports)
only_reissues ports mode port ready its (Issue other e ∷ steps) only =
    All-cons (IsReissue ports) (Issue other e) steps (ap ports.state only.1 ∙ ready, ap ports.mode only.1 ∙ its ∙ sym only.0) (only_reissues ports mode port ready its steps only.2)
only_reissues ports mode port ready its (step ∷ steps) only = All-cons (IsReissue ports) step steps (reissue_device ports step only.0) (only_reissues ports mode port ready its steps only.1)

-- ---- who was in the book

issued_was : (id : RequestId) (book : List BookEntry) (e : BookEntry) → Contains (map (update_if_id id issued_request) book) e → WasIn book e
issued_was id book e here =
    let w = map_in (update_if_id id issued_request) book e here in
    subst (WasIn book) (sym w.2) (by w.0 w.1 (has_id id w.0))
  where
    by : (x : BookEntry) → Contains book x → (b : Bool) → WasIn book (if b then record x { request = issued_request x.request } else x)
    by x here true = record { was = x; there = here; id = refl; client = refl; grant = refl; port = refl; op = refl; revoked = refl; waiting = λ waits. absurd (false≢true (sym waits)) }
    by x here false = was_itself book x here

puts_from : (port : Port) (ids : List RequestId) (tasks : List PlacedTask) (old new : ServerState) → PutsInSlots port ids tasks old new → (e : BookEntry) → Contains new.book e → WasIn old.book e
puts_from port [] [] old new none e here = was_itself old.book e (subst (λ (c : ServerState). Contains c.book e) none here)
puts_from port (id ∷ ids) (t ∷ tasks) old new (mid, one, more) e here =
    was_more old.book mid.book e (λ x there. issued_was id old.book x (subst (λ (c : ServerState). Contains c.book x) one.server_is there)) (puts_from port ids tasks mid new more e here)
puts_from port [] (t ∷ tasks) old new puts e here = absurd puts
puts_from port (id ∷ ids) [] old new puts e here = absurd puts

each_from : (port : Port) (ids : List RequestId) (old new : ServerState) → IssuesTogetherIfAny port ids old new → (e : BookEntry) → Contains new.book e → WasIn old.book e
each_from port ids old new issues e here =
    let x : ArePutInSlots port ids old new = are_put port ids old new issues in
    puts_from port ids x.tasks old x.taken x.puts e (subst (λ (c : ServerState). Contains c.book e) x.server here)

-- ---- so far

module _ (laws : PrerequisiteLaws) (old : ServerState) (k : InCallInvariant old) (m : Machine) (reached : IsReachable m) (is : MachineRelation old m) where
  abbrev IsReady : Port → Type 0
  IsReady port = state_of (probe_result_of old.probe_results port.0) ≡ ReadyState

  -- On the ready ports below this number what was due was issued, which led to this server.
  pub record AreReissued (n : ℕ) (c : ServerState) : Type 0 where
    pub steps : List Step
    pub may : AllEnabled m steps
    pub backed : TapeBacksSteps old.device c.device m steps
    pub stands : MachineRelation c (after m steps)
    pub kept : InCallInvariant c
    pub settings : c ≡ record old { device = c.device; slots = c.slots; book = c.book }
    pub only : All (IsReissue (ports_of old)) steps
    pub last : IssueIsLastOfRequest steps
    pub from : (e : BookEntry) → Contains c.book e → WasIn old.book e
    pub issued : (id : RequestId) → IsIssuedIn id steps → (e : BookEntry) × Contains old.book e × (e.request.id ≡ id) × (e.request.port.0 < n)
    pub none : (port : Port) → port.0 < n → IsReady port → NoneDue (mode_in old port) (unanswered_of c.book) port
    pub dues : (port : Port) → port.0 < n → IsReady port → IssuesDue (mode_in old port) steps (after m steps) port

  pub none_yet : AreReissued 0 old
  none_yet = record {
    steps = [];
    may = tt;
    backed = laws.empty_steps_are_backed old.device m;
    stands = is;
    kept = k;
    settings = refl;
    only = All-nil (IsReissue (ports_of old));
    last = tt;
    from = was_itself old.book;
    issued = λ id i. absurd (false≢true i);
    none = λ port lt. absurd (omega (arith, lt));
    dues = λ port lt. absurd (omega (arith, lt));
  }

  -- a port that isn't ready is passed over
  pub passed_over : (n : ℕ) (c : ServerState) → (state_of (probe_result_of old.probe_results n) ≢ ReadyState) → AreReissued n c → AreReissued (n + 1) c
  passed_over n c unready a = record {
    steps = a.steps;
    may = a.may;
    backed = a.backed;
    stands = a.stands;
    kept = a.kept;
    settings = a.settings;
    only = a.only;
    last = a.last;
    from = a.from;
    issued = λ id i. let w = a.issued id i in (w.0, w.1, w.2, let lt = w.3 in omega (arith, lt));
    none = λ port lt ready. a.none port (below port lt ready) ready;
    dues = λ port lt ready. a.dues port (below port lt ready) ready;
  }
    where
      below : (port : Port) → port.0 < n + 1 → IsReady port → port.0 < n
      below port lt ready = ⊎_elim
          (λ (less : port.0 < n). less)
          (λ (most : n ≤ port.0). absurd (unready (ap (λ (q : ℕ). state_of (probe_result_of old.probe_results q)) (let same : n ≡ port.0 = omega (arith, lt, most) in same) ∙ ready)))
          (cases_lt port.0 n)

  -- ---- one more port

  module _ (n : ℕ) (ready : state_of (probe_result_of old.probe_results n) ≡ ReadyState) (c mid : ServerState) (a : AreReissued n c) (issues : IssuesDueOfPort (port_at n) c mid) where
    abbrev port : Port
    port = port_at n

    abbrev ids : List RequestId
    ids = due_ids (mode_in c port) port (unanswered_of c.book)

    abbrev stood : Machine
    stood = after m a.steps

    then_reached : IsReachable stood
    then_reached = laws.steps_and_accesses.reachable_stays_reachable m a.steps reached a.may

    x : AreIssued port ids c mid stood
    x = each_issued laws port ids c mid a.kept issues stood then_reached a.stands

    abbrev all : List Step
    all = x.steps ++ a.steps

    all_is : after m all ≡ after stood x.steps
    all_is = laws.steps_and_accesses.after_joins m x.steps a.steps

    mode_same : (q : Port) → mode_in c q ≡ mode_in old q
    mode_same q = ap (λ (s : ServerState). mode_in s q) a.settings

    -- one that is due is of the port
    its : (id : RequestId) → Contains ids id → (e : BookEntry) × Contains c.book e × (e.request.id ≡ id) × (e.request.port ≡ port)
    its id there =
        let y = map_in (λ (u : Unanswered). u.id) (due_of (mode_in c port) port (unanswered_of c.book)) id there in
        let own : y.0.port ≡ port = laws.due_list_is_of_port (mode_in c port) port (unanswered_of c.book) y.0 y.1 in
        let due = (laws.due_list_is_exact (mode_in c port) port (unanswered_of c.book) y.0 own).0 y.1 in
        let w = map_in (λ (e : BookEntry). as_unanswered e.request) c.book y.0 due.is_in_book in
        (w.0, w.1, ap (λ (u : Unanswered). u.id) (sym w.2) ∙ sym y.2, ap (λ (u : Unanswered). u.port) (sym w.2) ∙ own)

    -- one of another port isn't issued here, nor one of the port before
    not_here : (e : BookEntry) → Contains c.book e → e.request.port.0 ≢ n → IsIssuedIn e.request.id x.steps → ⊥
    not_here e here other i =
        let w = its e.request.id (x.named e.request.id i) in
        let one : w.0 ≡ e = laws.an_id_is_one_entry c.book w.0 e a.kept.book_is_well_formed w.1 here w.2 in
        other (ap (λ (y : BookEntry). y.request.port.0) (sym one) ∙ ap (λ (p : Port). p.0) w.3)

    not_before : (e : BookEntry) → Contains old.book e → n ≤ e.request.port.0 → IsIssuedIn e.request.id a.steps → ⊥
    not_before e here high i =
        let w = a.issued e.request.id i in
        let one : w.0 ≡ e = laws.an_id_is_one_entry old.book w.0 e k.book_is_well_formed w.1 here w.2 in
        let lt = w.3 in
        let same = ap (λ (y : BookEntry). y.request.port.0) one in omega (arith, lt, same, high)

    apart : (id : RequestId) → IsIssuedIn id x.steps → IsIssuedIn id a.steps → ⊥
    apart id late early =
        let w = its id (x.named id late) in
        let v = a.from w.0 w.1 in
        not_before v.was v.there (let own = ap (λ (p : Port). p.0) w.3 in let same = ap (λ (p : Port). p.0) v.port in omega (arith, own, same)) (subst (λ (i : RequestId). IsIssuedIn i a.steps) (sym w.2 ∙ v.id) early)

    apart_same : (q : Port) → q.0 ≢ n → requests_of_port q (unanswered_of mid.book) ≡ requests_of_port q (unanswered_of c.book)
    apart_same q ne = each_apart laws port ids c mid a.kept.book_is_well_formed issues q (λ same. ne (ap (λ (p : Port). p.0) same))

    none_of_it : NoneDue (mode_in old port) (unanswered_of mid.book) port
    none_of_it = subst (λ (mode : QueueMode). NoneDue mode (unanswered_of mid.book) port) (mode_same port) (each_done laws port (mode_in c port) ids c mid issues (laws.due_are_issued_in_order (mode_in c port) port (unanswered_of c.book) (laws.unanswered_are_in_order c.book a.kept.book_is_well_formed)))

    none_then : (q : Port) → q.0 < n + 1 → IsReady q → NoneDue (mode_in old q) (unanswered_of mid.book) q
    none_then q lt its_ready = ⊎_elim
        (λ (same : q.0 ≡ n). subst (λ (p : Port). NoneDue (mode_in old p) (unanswered_of mid.book) p) (ap port_at (sym same)) none_of_it)
        (λ (ne : q.0 ≢ n). λ r own due. a.none q (omega (arith, lt, ne)) its_ready r own ((laws.due_depends_on_own_port (mode_in old q) q (unanswered_of mid.book) (unanswered_of c.book) r (apart_same q ne) own).0 due))
        (cases_eq q.0 n)

    -- what is asked of the machine's book
    asks_then : map unanswered stood.book ≡ unanswered_of c.book
    asks_then = same_book c.book stood.book a.stands.book

    asks_last : map unanswered (after stood x.steps).book ≡ unanswered_of mid.book
    asks_last = same_book mid.book (after stood x.steps).book x.stands.book

    last_machine : map unanswered (after stood x.steps).book ≡ map unanswered (after m all).book
    last_machine = ap (λ (s : Machine). map unanswered s.book) (sym all_is)

    -- a request of the port isn't issued before
    alike_here : (r : Unanswered) → Contains (map unanswered (after stood x.steps).book) r → r.port ≡ port → list_any (issues_id r.id) x.steps ≡ list_any (issues_id r.id) all
    alike_here r here own = ⊎_elim
        (λ early. absurd (let w = map_in (λ (e : BookEntry). as_unanswered e.request) mid.book r (subst (λ (us : List Unanswered). Contains us r) asks_last here) in
        let v = a.from (each_from port ids c mid issues w.0 w.1).was (each_from port ids c mid issues w.0 w.1).there in
        let u = each_from port ids c mid issues w.0 w.1 in
        not_before v.was v.there
        (let p = ap (λ (y : Unanswered). y.port.0) (sym w.2) ∙ ap (λ (q : Port). q.0) own in let q = ap (λ (y : Port). y.0) u.port in let s = ap (λ (y : Port). y.0) v.port in omega (arith, p, q, s))
        (subst (λ (i : RequestId). IsIssuedIn i a.steps) (ap (λ (y : Unanswered). y.id) w.2 ∙ u.id ∙ v.id) early)))
        (λ none. sym (any_append (issues_id r.id) x.steps a.steps ∙ ap (λ (b : Bool). list_any (issues_id r.id) x.steps || b) none ∙ or_none (list_any (issues_id r.id) x.steps)))
        (cases_Bool (list_any (issues_id r.id) a.steps))

    -- and one of another port isn't here
    alike_other : (q : Port) → q.0 ≢ n → (r : Unanswered) → Contains (map unanswered stood.book) r → r.port ≡ q → list_any (issues_id r.id) a.steps ≡ list_any (issues_id r.id) all
    alike_other q ne r here own = ⊎_elim
        (λ late. absurd (let w = map_in (λ (e : BookEntry). as_unanswered e.request) c.book r (subst (λ (us : List Unanswered). Contains us r) asks_then here) in
        not_here w.0 w.1 (λ same. ne (ap (λ (p : Port). p.0) (sym own) ∙ ap (λ (y : Unanswered). y.port.0) w.2 ∙ same)) (subst (λ (i : RequestId). IsIssuedIn i x.steps) (ap (λ (y : Unanswered). y.id) w.2) late)))
        (λ none. sym (any_append (issues_id r.id) x.steps a.steps ∙ ap (λ (b : Bool). b || list_any (issues_id r.id) a.steps) none))
        (cases_Bool (list_any (issues_id r.id) x.steps))

    dues_here : IssuesDue (mode_in old port) all (after m all) port
    dues_here = subst (λ (mode : QueueMode). IssuesDue mode all (after m all) port) (mode_same port)
        (dues_carried laws (mode_in c port) x.steps all (after stood x.steps) (after m all) port (ap (requests_of_port port) last_machine) alike_here
        (dues laws port c mid a.kept issues stood x port (λ ne. absurd (ne refl))))

    dues_then : (q : Port) → q.0 < n + 1 → IsReady q → IssuesDue (mode_in old q) all (after m all) q
    dues_then q lt its_ready = ⊎_elim
        (λ (same : q.0 ≡ n). subst (λ (p : Port). IssuesDue (mode_in old p) all (after m all) p) (ap port_at (sym same)) dues_here)
        (λ (ne : q.0 ≢ n). dues_carried laws (mode_in old q) a.steps all stood (after m all) q
        (ap (requests_of_port q) asks_then ∙ sym (apart_same q ne) ∙ ap (requests_of_port q) (sym asks_last ∙ last_machine)) (alike_other q ne) (a.dues q (omega (arith, lt, ne)) its_ready))
        (cases_eq q.0 n)

    issued_then : (id : RequestId) → IsIssuedIn id all → (e : BookEntry) × Contains old.book e × (e.request.id ≡ id) × (e.request.port.0 < n + 1)
    issued_then id i = ⊎_elim
        (λ late.
        let w = its id (x.named id late) in
        let v = a.from w.0 w.1 in
        (v.was, v.there, sym v.id ∙ w.2, let own = ap (λ (p : Port). p.0) w.3 in let same = ap (λ (p : Port). p.0) v.port in omega (arith, own, same)))
        (λ early. let w = a.issued id early in (w.0, w.1, w.2, let lt = w.3 in omega (arith, lt)))
        (issued_parts id x.steps a.steps i)

    pub reissued_more : AreReissued (n + 1) mid
    reissued_more = record {
      steps = all;
      may = laws.steps_and_accesses.enabled_lists_join m x.steps a.steps a.may x.may;
      backed = laws.backed_parts_join old.device c.device mid.device m a.steps x.steps a.backed x.backed;
      stands = subst (MachineRelation mid) (sym all_is) x.stands;
      kept = each_kept laws port ids c mid a.kept issues;
      settings = each_settings laws port ids c mid issues ∙ ap (λ (s : ServerState). record s { device = mid.device; slots = mid.slots; book = mid.book }) a.settings;
      only = All-append (IsReissue (ports_of old)) x.steps a.steps (only_reissues (ports_of old) (mode_in c port) port ready (sym (mode_same port)) x.steps x.only) a.only;
      last = last_on (mode_in c port) port x.steps a.steps x.only x.last a.last apart;
      from = λ e here. was_more old.book c.book e a.from (each_from port ids c mid issues e here);
      issued = issued_then;
      none = none_then;
      dues = dues_then;
    }

  -- ---- all ports

  not_ready : (found : ProbeResult) (n : ℕ) → probe_result_of old.probe_results n ≡ found → (state_of found ≢ ReadyState) → state_of (probe_result_of old.probe_results n) ≢ ReadyState
  not_ready found n update_if_id other ready = other (ap state_of (sym update_if_id) ∙ ready)

  pub reissue_all : (found : List ProbeResult) (n : ℕ) → ((i : ℕ) → probe_result_of old.probe_results (n + i) ≡ probe_result_of found i) → (c new : ServerState) → AreReissued n c → IssuesOnEachReadyPort n found c new → AreReissued (n + length found) new
  reissue_all [] n update_if_id c new a same = subst (λ (q : ℕ). AreReissued q new) (omega arith) (subst (AreReissued n) (sym same) a)
  reissue_all (Ready info ∷ rest) n update_if_id c new a (mid, issues, more) =
      let here : probe_result_of old.probe_results n ≡ Ready info = ap (probe_result_of old.probe_results) (omega arith) ∙ update_if_id 0 in
      subst (λ (q : ℕ). AreReissued q new) (omega arith)
      (reissue_all rest (n + 1) (λ i. ap (probe_result_of old.probe_results) (omega arith) ∙ update_if_id (suc i)) mid new (reissued_more n (ap state_of here) c mid a issues) more)
  reissue_all (Unserved ∷ rest) n update_if_id c new a more =
      let here : probe_result_of old.probe_results n ≡ Unserved = ap (probe_result_of old.probe_results) (omega arith) ∙ update_if_id 0 in
      subst (λ (q : ℕ). AreReissued q new) (omega arith)
      (reissue_all rest (n + 1) (λ i. ap (probe_result_of old.probe_results) (omega arith) ∙ update_if_id (suc i)) c new
      (passed_over n c (not_ready Unserved n here (λ ready. let z : Absent ≡ ReadyState = ready in absurd cc)) a) more)
  reissue_all (Unready state ∷ rest) n update_if_id c new a more =
      let here : probe_result_of old.probe_results n ≡ Unready state = ap (probe_result_of old.probe_results) (omega arith) ∙ update_if_id 0 in
      subst (λ (q : ℕ). AreReissued q new) (omega arith)
      (reissue_all rest (n + 1) (λ i. ap (probe_result_of old.probe_results) (omega arith) ∙ update_if_id (suc i)) c new
      (passed_over n c (λ ready. unready (ready_found old n k ready).1 here) a) more)
    where
      unready : (info : DiskInfo) × (probe_result_of old.probe_results n ≡ Ready info) → probe_result_of old.probe_results n ≡ Unready state → ⊥
      unready (info, one) other = let z : Ready info ≡ Unready state = sym one ∙ other in absurd cc

  -- once all four ports had their turn, nothing is due
  pub settled_then : (new : ServerState) → AreReissued 4 new → InvariantWithNoneDue new
  settled_then new a = record {
    in_call_invariant = a.kept;
    none_is_due = λ port. ⊎_elim
        (λ (ready : IsReady port). subst (λ (mode : QueueMode). NoneDue mode (unanswered_of new.book) port) (sym (ap (λ (s : ServerState). mode_in s port) a.settings)) (a.none port (ready_found old port.0 k ready).0 ready))
        (λ unready. none_due_unready new a.kept port (λ ready. unready (ap (λ (s : ServerState). state_of (probe_result_of s.probe_results port.0)) (sym a.settings) ∙ ready)) (mode_in new port))
        (ready_or_not (state_of (probe_result_of old.probe_results port.0)));
  }

  -- so it is of a server's ports
  pub all_reissued : (found : List ProbeResult) → old.probe_results ≡ found → length found ≡ 4 → (new : ServerState) → IssuesOnEachReadyPort 0 found old new → AreReissued 4 new
  all_reissued found same four new issues = subst (λ (q : ℕ). AreReissued q new) (omega (arith, four))
      (reissue_all found 0 (λ i. ap (λ (ports : List ProbeResult). probe_result_of ports (0 + i)) same ∙ ap (probe_result_of found) (omega arith)) old new none_yet issues)
