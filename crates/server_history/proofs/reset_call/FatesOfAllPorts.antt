-- Once the adapter was taken over again, requests meet their fates in the machine, one port after another.
use Rattle.std.proofs.Common.{List, None, Option, [], ap, arith, eq-eqb, eqb-true, false, get_or, inl, inr, length, map, refl, subst, sym, true, ℕ, ⊎_elim, ◌++◌, ◌+◌, ◌<◌, ◌∙◌, ◌∷◌, ◌≡◌, ◌≢◌, ◌≤◌}
use Rattle.std.proofs.lemmas.Bool.{cases_eq, false≢true}
use Rattle.std.proofs.lemmas.List.{get_or-set_other, get_or-set_same, length-set, map-append}
use Rattle.std.proofs.lemmas.List.Elements.{All-append, All-contains, All-contains_itself, All-filter, All-nil, All-weaker, Contains-append_cases, filter_passes}
use Rattle.std.proofs.lemmas.List.Kept.{AllPairs-filter}
use Rattle.std.proofs.lemmas.List.Sorted.{Contains-permutation, IsPermutation-append, IsPermutation-append_comm, IsPermutation-refl, IsPermutation-trans}
use Rattle.std.specs.List.{All, AllPairs, Contains}
use Rattle.std.specs.List.Sorted.{IsPermutation}
use Rattle.adapter.specs.Device.{Device}
use Rattle.adapter.specs.declared.command.Operation.TheVariants.{Identify}
use Rattle.refinement.specs.Relation.{port_at}
use Rattle.refinement.specs.Fragments.{driver_state_of}
use Rattle.refinement.specs.Driver.{TapeBacksSteps, DriverRelation}
use Rattle.refinement.specs.Slots.{Free, Own, Serves, SlotStates}
use Rattle.ata_types.specs.declared.Port.{Port}
use Rattle.ata_types.specs.declared.PortState.TheVariants.{Dead}
use Rattle.ata_types.specs.declared.request.ClientId.{ClientId}
use Rattle.ata_types.specs.declared.request.Frame.{Frame}
use Rattle.ata_types.specs.declared.request.Outcome.{Outcome}
use Rattle.ata_types.specs.declared.request.Reply.{Reply}
use Rattle.ata_types.specs.declared.request.RequestId.{RequestId}
use Rattle.server_history.proofs.state.ListMembers.{contains_there, in_filter}
use Rattle.block_machine.specs.Events.{AllEnabled, IsLowerByPortThenId, answers_of, reply_of}
use Rattle.block_machine.specs.Histories.{IsReachable}
use Rattle.block_machine.specs.Expected.{after}
use Rattle.block_machine.specs.State.{Machine, Pending}
use Rattle.block_machine.specs.Steps.{WaitAgain, Answer, Step}
use Rattle.dma_frames.specs.Loan.{Lending}
use Rattle.dma_frames.specs.FrameTables.{lent_to, owner_of}
use Rattle.host_boot.specs.TakeOver.{IsUnusedOrIdentifyOfDeadPort, probe_result_of}
use Rattle.host_boot.specs.declared.ProbeResult.{ProbeResult}
use Rattle.host_boot.specs.declared.ProbeResult.TheVariants.{Unready}
use Rattle.identify.specs.declared.DiskInfo.{DiskInfo}
use Rattle.request_queue.specs.BookEntries.{BookEntry, IsWellFormedEntry, IsEarlier, BookIsWellFormed, is_of_port, request_with_issued_cleared}
use Rattle.request_queue.specs.Dispositions.{BookAndLoans, AreResolved, IsResolved, disposition_of}
use Rattle.request_queue.specs.BookRelation.{BookRelation, EntryRelation}
use Rattle.request_queue.specs.declared.PendingRequest.{PendingRequest}
use Rattle.request_queue.specs.declared.disposition.Disposition.{Disposition}
use Rattle.request_queue.specs.declared.disposition.Disposition.TheVariants.{Complete, Requeue, Wait}
use Rattle.request_queue.specs.declared.disposition.Revalidation.{Revalidation}
use Rattle.request_queue.specs.declared.disposition.Revalidation.TheVariants.{Dead as NoEnd, DiskLost, SameDisk}
use Rattle.server_history.proofs.recovery_turn.MendedMachine.{deciding_leaves}
use Rattle.server_history.proofs.any_turn.JoinedParts.{all_pairs_append, answers_append, answers_there}
use Rattle.server_history.proofs.state.FirstMembers.{first_here, nowhere}
use Rattle.server_history.proofs.dispositions.MoreKeptLoans.{more_kept}
use Rattle.server_history.proofs.dispositions.FittingFates.{fits_each, kept_dead_alone}
use Rattle.server_history.proofs.dispositions.MetFates.{meet, none_parked}
use Rattle.server_history.proofs.dispositions.RemainingBook.{IsLeft, WasIn, ends_of, fated, marked_from, was_itself, was_more}
use Rattle.server_history.specs.Prerequisites.{PrerequisiteLaws}
use Rattle.server_history.specs.ResolvedRequests.{IsResolveStep, AreResolvable, AreResolvedInMachine, completes_keeping_loan}
use Rattle.server_history.specs.ErrorHandling.{book_and_loans_of, requests_of}
use Rattle.server_history.specs.Resets.{IsResetRevalidation, ResolvesEachPort, ResolvesPort, with_book_and_loans}
use Rattle.server_history.specs.ServerState.{KeptRequestsRelation, ServerState, quarantined_at, remembered_at, RevokedMarkInvariant}
use Rattle.server_history.proofs.state.RevokedMarks.{tells_of}

-- ---- a port's requests

pub of_requests : (port : Port) (book : List BookEntry) (e : BookEntry) → Contains (requests_of port book) e → Contains book e × (e.request.port ≡ port)
of_requests port book e here = (
  All-contains (Contains book) (requests_of port book) e (All-filter (λ (x : BookEntry). is_of_port port x.request) (Contains book) book (All-contains_itself book)) here,
  ap port_at (eqb-true e.request.port.0 port.0 (All-contains (λ (x : BookEntry). is_of_port port x.request ≡ true) (requests_of port book) e (filter_passes (λ (x : BookEntry). is_of_port port x.request) book) here)),
)

pub in_requests : (port : Port) (book : List BookEntry) (e : BookEntry) → Contains book e → e.request.port.0 ≡ port.0 → Contains (requests_of port book) e
in_requests port book e here same = in_filter (λ (x : BookEntry). is_of_port port x.request) book e here (eq-eqb e.request.port.0 port.0 same)

-- one that is none of those that meet their fates stays as it is
fates_spare : PrerequisiteLaws → (disposition : PendingRequest → Disposition) (requests : List BookEntry) (replies : List Reply) (old new : BookAndLoans) → AreResolved disposition requests replies old new → (e : BookEntry) → Contains old.book e
    → ((r : BookEntry) → Contains requests r → e.request.id ≢ r.request.id) → Contains new.book e
fates_spare laws disposition [] replies old new (none, is) e here apart = subst (λ (h : BookAndLoans). Contains h.book e) (sym is) here
fates_spare laws disposition (request ∷ requests) replies old new (mid, its, later, split, meets, more) e here apart =
    fates_spare laws disposition requests later mid new more e (spared (disposition request.request) meets) (λ r there. apart r (contains_there request requests r there))
  where
    differs : e.request.id ≢ request.request.id
    differs = apart request (first_here request requests)

    spared : (f : Disposition) → IsResolved request f its old mid → Contains mid.book e
    spared Wait m = subst (λ (h : BookAndLoans). Contains h.book e) (sym m.1) here
    spared Requeue m = subst (λ (h : BookAndLoans). Contains h.book e) (sym m.1) (laws.update_keeps_other_entries old.book request.request.id request_with_issued_cleared e here differs)
    spared (Complete o) m = subst (λ (book : List BookEntry). Contains book e) (sym m.1) ((laws.removal_keeps_other_entries old.book request.request.id e).1 (here, differs))

-- a slot that was left so serves no request
pub serves_none : (ports : List ProbeResult) (uses : SlotStates) (port slot : ℕ) → IsUnusedOrIdentifyOfDeadPort ports uses port slot → (id : RequestId) → uses port slot ≡ Serves id → ⊥
serves_none ports uses port slot (inl free) id serves = let z : Free ≡ Serves id = sym free ∙ serves in absurd cc
serves_none ports uses port slot (inr (zero_is, own, dead)) id serves = let z : Own Identify ≡ Serves id = sym own ∙ ap (uses port) (sym zero_is) ∙ serves in absurd cc

-- ---- what is so on the way

-- the port is ready with the disk that it had
abbrev pub HasItsDisk : List (Option DiskInfo) → List ProbeResult → ℕ → Type 0
HasItsDisk remembered ports port = IsResetRevalidation (remembered_at remembered port) (probe_result_of ports port) SameDisk

-- The requests of ports below this number met their fates: what is parked of the others is issued, and of those none is, but of dead ones; and who is left of them is of a ready port
-- that has its disk.
pub record IsFatedTo (n : ℕ) (c : ServerState) (m : Machine) : Type 0 where
  pub four_kept : length c.kept_loans ≡ 4
  pub uses : SlotStates
  pub left : (port slot : ℕ) → IsUnusedOrIdentifyOfDeadPort c.probe_results uses port slot
  pub parked : ℕ → List RequestId
  pub driver_relation : DriverRelation m (driver_state_of uses parked c.device)
  pub unparked : (port : ℕ) → port < n → probe_result_of c.probe_results port ≢ Unready Dead → parked port ≡ []
  pub its : (port : ℕ) → n ≤ port → (id : RequestId) → Contains (parked port) id
      → (e : BookEntry) × Contains c.book e × (e.request.id ≡ id) × (e.request.issued ≡ true) × (e.request.port.0 ≡ port)
  pub book : BookRelation c.book m.book
  pub kept : KeptRequestsRelation c.probe_results c.kept_loans m.kept
  pub unkept : (port : ℕ) → n ≤ port → quarantined_at c.kept_loans port ≡ []
  pub rows : m.rows ≡ c.grants
  pub owner : (frame : Frame) → m.owner frame ≡ owner_of c.table frame
  pub lent : (frame : Frame) → m.lent frame ≡ lent_to c.table frame
  pub next : m.next_id ≡ c.last_id + 1
  pub ordered : BookIsWellFormed c.book
  pub accepted : All (IsWellFormedEntry c.table) c.book
  pub marked : All (RevokedMarkInvariant c.grants) c.book
  pub alive : (e : BookEntry) → Contains c.book e → e.request.port.0 < n → HasItsDisk c.remembered c.probe_results e.request.port.0

-- ---- one port

module _ (laws : PrerequisiteLaws) (n : ℕ) (low : n < 4) (replies : List Reply) (old mid : ServerState) (m : Machine) (reached : IsReachable m) (s : ResolvesPort (port_at n) replies old mid) (at : IsFatedTo n old m) where
  abbrev port : Port
  port = port_at n

  abbrev disposition : PendingRequest → Disposition
  disposition = disposition_of None s.revalidation

  abbrev its : List BookEntry
  its = requests_of port old.book

  abbrev was : Option DiskInfo
  was = remembered_at old.remembered n

  abbrev found : ProbeResult
  found = probe_result_of old.probe_results n

  may_meet : AreResolvable port disposition its (book_and_loans_of port old) (driver_state_of at.uses at.parked old.device) m
  may_meet = record {
    reached = reached;
    driver_relation = at.driver_relation;
    book_relation = at.book;
    loans_agree = at.lent;
    book_is_well_formed = at.ordered;
    entries_are_well_formed = at.accepted;
    revoked_marks_agree = λ e here. tells_of m.rows old.grants e.request at.rows (All-contains (RevokedMarkInvariant old.grants) old.book e at.marked (of_requests port old.book e here).0).revoked_mark_agrees;
    are_in_book_of_port = of_requests port old.book;
    are_in_order = AllPairs-filter IsEarlier (λ (x : BookEntry). is_of_port port x.request) old.book at.ordered.ids_rise;
    released_have_no_slot = λ e here never q slot serves. serves_none old.probe_results at.uses q slot (at.left q slot) e.request.id serves;
  }

  pub met : AreResolvedInMachine port disposition its replies (book_and_loans_of port old) s.book_and_loans_after (driver_state_of at.uses at.parked old.device) m
  met = meet laws port disposition its (fits_each None s.revalidation its) replies (book_and_loans_of port old) s.book_and_loans_after (driver_state_of at.uses at.parked old.device) m may_meet s.are_resolved

  pub left : IsLeft port disposition its (book_and_loans_of port old) s.book_and_loans_after
  left = fated laws port disposition its (fits_each None s.revalidation its) replies (book_and_loans_of port old) s.book_and_loans_after
      (record { here = of_requests port old.book; earlier = may_meet.are_in_order; ordered = at.ordered; accepted = at.accepted }) s.are_resolved

  abbrev z : Machine
  z = after m met.steps

  -- ---- loans that are kept

  -- they are of a dead port
  dies : (e : Pending) → Contains met.newly_kept e → (e.request.port ≡ port) × (found ≡ Unready Dead)
  dies e here = (x.2.port ∙ (of_requests port old.book x.0 x.1).1, by s.revalidation refl)
    where
      x : (request : BookEntry) × Contains its request × EntryRelation request e × (completes_keeping_loan (disposition request.request) request.request ≡ true)
      x = met.newly_kept_are_of_requests e here

      lives : s.revalidation ≢ NoEnd → ⊥
      lives other = false≢true (sym (kept_dead_alone None s.revalidation x.0.request other) ∙ x.3)

      by : (p : Revalidation) → s.revalidation ≡ p → found ≡ Unready Dead
      by SameDisk same = absurd (lives (λ dead. let y : SameDisk ≡ NoEnd = sym same ∙ dead in absurd cc))
      by DiskLost same = absurd (lives (λ dead. let y : DiskLost ≡ NoEnd = sym same ∙ dead in absurd cc))
      by NoEnd same = subst (IsResetRevalidation was found) same s.is_revalidation

  quiet : found ≢ Unready Dead → (e : PendingRequest) → completes_keeping_loan (disposition e) e ≡ false
  quiet lives e = kept_dead_alone None s.revalidation e (λ dead. lives (subst (IsResetRevalidation was found) dead s.is_revalidation))

  -- where no loan is kept, none is parked
  none_left : ((e : PendingRequest) → completes_keeping_loan (disposition e) e ≡ false) → met.parked n ≡ []
  none_left none =
      none_parked port disposition its (fits_each None s.revalidation its) replies (book_and_loans_of port old) s.book_and_loans_after (driver_state_of at.uses at.parked old.device) m met none
      (λ id here. let w = at.its n (omega arith) id here in (w.0, in_requests port old.book w.0 w.1 w.4, w.2, w.3))

  abbrev new : ServerState
  new = with_book_and_loans port s.book_and_loans_after old

  are_kept : KeptRequestsRelation new.probe_results new.kept_loans z.kept
  are_kept = subst (KeptRequestsRelation new.probe_results new.kept_loans) (sym met.newly_kept_are_kept)
      (more_kept port old.probe_results old.probe_results old.kept_loans new.kept_loans met.newly_kept m.kept at.kept
      (get_or-set_same old.kept_loans n s.book_and_loans_after.kept [] (let four = at.four_kept in omega (arith, four, low)) ∙ met.loans_of_newly_kept)
      (λ q ne. get_or-set_other old.kept_loans n q s.book_and_loans_after.kept [] ne) at.kept.quarantine_ports_are_dead dies met.loans_differ_in_request
      (λ a b here there. absurd (nowhere a (subst (λ (loans : List Lending). Contains loans a) (at.unkept n (omega arith)) here))))

  -- ---- who is left

  its_then : (q : ℕ) → n + 1 ≤ q → (id : RequestId) → Contains (met.parked q) id → (e : BookEntry) × Contains s.book_and_loans_after.book e × (e.request.id ≡ id) × (e.request.issued ≡ true) × (e.request.port.0 ≡ q)
  its_then q high id here =
      let other : q ≢ n = λ same. omega (arith, high, same) in
      let w = at.its q (omega (arith, high)) id (subst (λ (ids : List RequestId). Contains ids id) (met.parked_of_others_is_kept q other) here) in (
        w.0,
        fates_spare laws disposition its replies (book_and_loans_of port old) s.book_and_loans_after s.are_resolved w.0 w.1 (λ r there same.
            let o = of_requests port old.book r there in
            let one : w.0 ≡ r = laws.an_id_is_one_entry old.book w.0 r at.ordered w.1 o.0 same in
            other (sym w.4 ∙ ap (λ (x : BookEntry). x.request.port.0) one ∙ ap (λ (p : Port). p.0) o.1)),
        w.2,
        w.3,
        w.4,
      )

  alive_then : (e : BookEntry) → Contains s.book_and_loans_after.book e → e.request.port.0 < n + 1 → HasItsDisk old.remembered old.probe_results e.request.port.0
  alive_then e here lt = ⊎_elim
      (λ (same : e.request.port.0 ≡ n). subst (HasItsDisk old.remembered old.probe_results) (sym same) (by same s.revalidation refl s.is_revalidation))
      (λ (ne : e.request.port.0 ≢ n). subst (λ (p : Port). HasItsDisk old.remembered old.probe_results p.0) (sym w.port) (at.alive w.was w.there (let own = ap (λ (p : Port). p.0) w.port in omega (arith, lt, ne, own))))
      (cases_eq e.request.port.0 n)
    where
      w : WasIn old.book e
      w = left.from e here

      none : e.request.port.0 ≡ n → (s.revalidation ≡ SameDisk → ⊥) → ⊥
      none own other =
          let end = ends_of None s.revalidation other w.was.request in
          left.gone w.was end.0 (in_requests port old.book w.was w.there (ap (λ (p : Port). p.0) (sym w.port) ∙ own)) end.1 e here w.id

      by : e.request.port.0 ≡ n → (p : Revalidation) → s.revalidation ≡ p → IsResetRevalidation was found p → HasItsDisk old.remembered old.probe_results n
      by own SameDisk is x = x
      by own DiskLost is x = absurd (none own (λ same. let y : DiskLost ≡ SameDisk = sym is ∙ same in absurd cc))
      by own NoEnd is x = absurd (none own (λ same. let y : NoEnd ≡ SameDisk = sym is ∙ same in absurd cc))

  leaves : (z.rows ≡ m.rows) × ((frame : Frame) → z.owner frame ≡ m.owner frame) × (z.next_id ≡ m.next_id)
  leaves = deciding_leaves port m met.steps met.steps_are_of_port

  pub fated_one : IsFatedTo (n + 1) mid z
  fated_one = subst (λ (c : ServerState). IsFatedTo (n + 1) c z) (sym s.server_is) (record {
    four_kept = length-set old.kept_loans n s.book_and_loans_after.kept ∙ at.four_kept;
    uses = at.uses;
    left = at.left;
    parked = met.parked;
    driver_relation = met.driver_relation;
    unparked = λ q lt lives. ⊎_elim
        (λ (same : q ≡ n). ap met.parked same ∙ none_left (quiet (λ dead. lives (ap (probe_result_of old.probe_results) same ∙ dead))))
        (λ (ne : q ≢ n). met.parked_of_others_is_kept q ne ∙ at.unparked q (omega (arith, lt, ne)) lives)
        (cases_eq q n);
    its = its_then;
    book = met.book;
    kept = are_kept;
    unkept = λ q high. get_or-set_other old.kept_loans n q s.book_and_loans_after.kept [] (λ same. omega (arith, high, same)) ∙ at.unkept q (omega (arith, high));
    rows = leaves.0 ∙ at.rows;
    owner = λ frame. leaves.1 frame ∙ at.owner frame ∙ ap (λ (owners : List (Option ClientId)). get_or owners frame.0 None) (sym left.owners);
    lent = met.loans_agree;
    next = leaves.2 ∙ at.next;
    ordered = left.ordered;
    accepted = left.accepted;
    marked = All-weaker (Contains s.book_and_loans_after.book) (RevokedMarkInvariant old.grants) (λ e here. marked_from old.grants old.book at.marked e (left.from e here)) s.book_and_loans_after.book (All-contains_itself s.book_and_loans_after.book);
    alive = alive_then;
  })

-- ---- one port after another

-- The request, which was in the book, has this fate, by what its port is.
pub record HasFate (c : ServerState) (e : Pending) (f : Disposition) : Type 0 where
  pub request : BookEntry
  pub entry : EntryRelation request e
  pub from : WasIn c.book request
  pub revalidation : Revalidation
  pub expects : IsResetRevalidation (remembered_at c.remembered e.request.port.0) (probe_result_of c.probe_results e.request.port.0) revalidation
  pub disposition : disposition_of None revalidation request.request ≡ f

-- a step that decides on a request of some port
abbrev pub Decides : Step → Type 0
Decides step = (port : Port) × IsResolveStep port step

-- Requests of so many ports, of which the first has this number, met their fates by steps that decide on them; these are told by port, and then by id.
pub record AreFated (n : ℕ) (found : List ProbeResult) (replies : List Reply) (old new : ServerState) (m : Machine) : Type 0 where
  pub steps : List Step
  pub may : AllEnabled m steps
  pub backed : (d : Device) → TapeBacksSteps d d m steps
  pub fated : IsFatedTo (n + length found) new (after m steps)
  pub decides : All Decides steps
  pub answered : (e : Pending) (o : Outcome) → Contains steps (Answer e o) → HasFate old e (Complete o)
  pub again : (e : Pending) → Contains steps (WaitAgain e) → HasFate old e Requeue
  pub answers : List (Pending × Outcome)
  pub permuted : IsPermutation answers (answers_of steps)
  pub ordered : AllPairs IsLowerByPortThenId answers
  pub high : All (λ a. n ≤ a.0.request.port.0) answers
  pub told : replies ≡ map reply_of answers
  pub from : (e : BookEntry) → Contains new.book e → WasIn old.book e
  pub owners : new.table.owners ≡ old.table.owners
  pub settings : new ≡ record old { table = new.table; kept_loans = new.kept_loans; book = new.book }

module _ (laws : PrerequisiteLaws) (n : ℕ) (low : n < 4) (found : ProbeResult) (rest : List ProbeResult) (replies its later : List Reply) (split : replies ≡ its ++ later) (old mid new : ServerState) (m : Machine) (reached : IsReachable m)
    (s : ResolvesPort (port_at n) its old mid) (at : IsFatedTo n old m) where
  abbrev one : AreResolvedInMachine (port_at n) (disposition_of None s.revalidation) (requests_of (port_at n) old.book) its (book_and_loans_of (port_at n) old) s.book_and_loans_after (driver_state_of at.uses at.parked old.device) m
  one = met laws n low its old mid m reached s at

  -- a request of the port has its fate
  its_fate : (e : Pending) (f : Disposition) → (request : BookEntry) × Contains (requests_of (port_at n) old.book) request × EntryRelation request e × (disposition_of None s.revalidation request.request ≡ f) → HasFate old e f
  its_fate e f (request, here, entry, is) =
      let its = of_requests (port_at n) old.book request here in
      let own : e.request.port ≡ port_at n = entry.port ∙ its.1 in
      record {
        request = request;
        entry = entry;
        from = was_itself old.book request its.0;
        revalidation = s.revalidation;
        expects = subst (λ (p : Port). IsResetRevalidation (remembered_at old.remembered p.0) (probe_result_of old.probe_results p.0) s.revalidation) (sym own) s.is_revalidation;
        disposition = is;
      }

  one_left : IsLeft (port_at n) (disposition_of None s.revalidation) (requests_of (port_at n) old.book) (book_and_loans_of (port_at n) old) s.book_and_loans_after
  one_left = left laws n low its old mid m reached s at

  mid_from : (e : BookEntry) → Contains mid.book e → WasIn old.book e
  mid_from e here = one_left.from e (subst (λ (c : ServerState). Contains c.book e) s.server_is here)

  as_before : (e : Pending) (f : Disposition) → HasFate mid e f → HasFate old e f
  as_before e f has = record {
    request = has.request;
    entry = has.entry;
    from = was_more old.book mid.book has.request mid_from has.from;
    revalidation = has.revalidation;
    expects = subst (λ (c : ServerState). IsResetRevalidation (remembered_at c.remembered e.request.port.0) (probe_result_of c.probe_results e.request.port.0) has.revalidation) s.server_is has.expects;
    disposition = has.disposition;
  }

  -- those that are told first are of this port
  told_here : All (λ a. a.0.request.port.0 ≡ n) one.replies_match.answers
  told_here = All-weaker (Contains one.replies_match.answers) (λ a. a.0.request.port.0 ≡ n)
      (λ a here.
      let w = one.answers_are_as_decided a.0 a.1 (answers_there one.steps a (Contains-permutation one.replies_match.answers (answers_of one.steps) a one.replies_match.is_permutation here)) in
      ap (λ (p : Port). p.0) (w.2.port ∙ (of_requests (port_at n) old.book w.0 w.1).1))
      one.replies_match.answers (All-contains_itself one.replies_match.answers)

  pub fated_more : AreFated (n + 1) rest later mid new (after m one.steps) → AreFated n (found ∷ rest) replies old new m
  fated_more r = record {
    steps = r.steps ++ one.steps;
    may = laws.steps_and_accesses.enabled_lists_join m r.steps one.steps one.steps_are_enabled r.may;
    backed = λ d. laws.backed_parts_join d d d m one.steps r.steps (one.backed d) (r.backed d);
    fated = subst (IsFatedTo (n + length (found ∷ rest)) new) (sym (laws.steps_and_accesses.after_joins m r.steps one.steps)) (subst (λ (k : ℕ). IsFatedTo k new (after (after m one.steps) r.steps)) (omega arith) r.fated);
    decides = All-append Decides r.steps one.steps r.decides (All-weaker (IsResolveStep (port_at n)) Decides (λ step is. (port_at n, is)) one.steps one.steps_are_of_port);
    answered = λ e o here. ⊎_elim (λ late. as_before e (Complete o) (r.answered e o late)) (λ early. its_fate e (Complete o) (one.answers_are_as_decided e o early)) (Contains-append_cases r.steps one.steps (Answer e o) here);
    again = λ e here. ⊎_elim (λ late. as_before e Requeue (r.again e late)) (λ early. its_fate e Requeue (one.requeues_are_as_decided e early)) (Contains-append_cases r.steps one.steps (WaitAgain e) here);
    answers = one.replies_match.answers ++ r.answers;
    permuted = subst (IsPermutation (one.replies_match.answers ++ r.answers)) (sym (answers_append r.steps one.steps))
        (IsPermutation-trans _ _ _ (IsPermutation-append_comm one.replies_match.answers r.answers) (IsPermutation-append _ _ _ _ r.permuted one.replies_match.is_permutation));
    ordered = all_pairs_append IsLowerByPortThenId one.replies_match.answers r.answers one.replies_match.ordered r.ordered (λ a b here there.
        let first = All-contains (λ x. x.0.request.port.0 ≡ n) one.replies_match.answers a told_here here in
        let later_on = All-contains (λ x. n + 1 ≤ x.0.request.port.0) r.answers b r.high there in
        inl (omega (arith, first, later_on)));
    high = All-append (λ a. n ≤ a.0.request.port.0) one.replies_match.answers r.answers
        (All-weaker (λ a. a.0.request.port.0 ≡ n) (λ a. n ≤ a.0.request.port.0) (λ a is. omega (arith, is)) one.replies_match.answers told_here)
        (All-weaker (λ a. n + 1 ≤ a.0.request.port.0) (λ a. n ≤ a.0.request.port.0) (λ a is. omega (arith, is)) r.answers r.high);
    told = split ∙ ap (λ (list : List Reply). list ++ later) one.replies_match.replies_are_of_answers ∙ ap (λ (list : List Reply). map reply_of one.replies_match.answers ++ list) r.told ∙ sym (map-append reply_of one.replies_match.answers r.answers);
    from = λ e here. was_more old.book mid.book e (λ x there. mid_from x there) (r.from e here);
    owners = r.owners ∙ ap (λ (c : ServerState). c.table.owners) s.server_is ∙ one_left.owners;
    settings = r.settings ∙ ap (λ (c : ServerState). record c { table = new.table; kept_loans = new.kept_loans; book = new.book }) s.server_is;
  }

pub fate_all : PrerequisiteLaws → (found : List ProbeResult) (n : ℕ) → n + length found ≤ 4 → (replies : List Reply) (old new : ServerState) → ResolvesEachPort n found replies old new → (m : Machine) → IsReachable m → IsFatedTo n old m
    → AreFated n found replies old new m
fate_all laws [] n few replies old new (none, same) m reached at = record {
  steps = [];
  may = tt;
  backed = λ d. laws.empty_steps_are_backed d m;
  fated = subst (λ (c : ServerState). IsFatedTo (n + 0) c m) (sym same) (subst (λ (k : ℕ). IsFatedTo k old m) (omega arith) at);
  decides = All-nil Decides;
  answered = λ e o here. absurd (nowhere (Answer e o) here);
  again = λ e here. absurd (nowhere (WaitAgain e) here);
  answers = [];
  permuted = IsPermutation-refl [];
  ordered = λ i j d lt below. absurd (omega (arith, lt, below));
  high = All-nil (λ a. n ≤ a.0.request.port.0);
  told = none;
  from = λ e here. was_itself old.book e (subst (λ (c : ServerState). Contains c.book e) same here);
  owners = ap (λ (c : ServerState). c.table.owners) same;
  settings = same ∙ ap (λ (c : ServerState). record old { table = c.table; kept_loans = c.kept_loans; book = c.book }) (sym same);
}
fate_all laws (found ∷ rest) n few replies old new (mid, its, later, split, one, more) m reached at =
    let low : n < 4 = omega (arith, few) in
    let first = met laws n low its old mid m reached one at in
    fated_more laws n low found rest replies its later split old mid new m reached one at
    (fate_all laws rest (n + 1) (omega (arith, few)) later mid new more (after m first.steps) (laws.steps_and_accesses.reachable_stays_reachable m first.steps reached first.steps_are_enabled) (fated_one laws n low its old mid m reached one at))
