-- What holds of a server's book, whether or not its adapter is on.
use Rattle.std.proofs.Common.{ℕ, true, ◌≡◌, ◌≢◌, ◌≤◌, ◌+◌, ◌<◌, List, [], ◌∷◌, length, None, refl, sym, ap, ◌∙◌, subst, arith, ⊎_elim}
use Rattle.std.specs.Prelude.{count_by}
use Rattle.std.proofs.lemmas.List.{get_or-set_other, get_or-set_same, length-set}
use Rattle.std.proofs.lemmas.List.Elements.{All-weaker}
use Rattle.std.proofs.lemmas.Bool.{cases_eq}
use Rattle.refinement.specs.Relation.{port_at}
use Rattle.ata_types.specs.declared.Port.{Port}
use Rattle.ata_types.specs.declared.PortState.TheVariants.{Absent, Ready as ReadyState}
use Rattle.ata_types.specs.declared.request.Reply.{Reply}
use Rattle.host_boot.specs.TakeOver.{StillBacksProbeResult, probe_result_of, wanted_of}
use Rattle.host_boot.specs.declared.ProbeResult.{ProbeResult}
use Rattle.host_boot.specs.declared.ProbeResult.TheVariants.{Ready, Unready, Unserved}
use Rattle.request_queue.specs.BookEntries.{BookEntry}
use Rattle.request_queue.specs.Dispositions.{disposition_of}
use Rattle.server_history.specs.Prerequisites.{PrerequisiteLaws}
use Rattle.server_history.specs.ErrorHandling.{book_and_loans_of, requests_of}
use Rattle.server_history.specs.Resets.{MayResolve, ResolvesPort, with_book_and_loans, ResolvesEachPort}
use Rattle.server_history.specs.ServerState.{ServerState, InCallInvariant, is_served, quarantined_at, state_of, used_for}
use Rattle.server_history.specs.StuckServer.{ServerInvariant}
use Rattle.server_history.proofs.state.IssueCounts.{places}
use Rattle.server_history.proofs.any_turn.JoinedParts.{ready_or_not}
use Rattle.server_history.proofs.state.LoanCounts.{issued_of}
use Rattle.server_history.proofs.dispositions.MetFates.{nobody}
use Rattle.server_history.proofs.dispositions.FittingFates.{fits_each}
use Rattle.server_history.proofs.dispositions.RemainingBook.{IsLeft, fated, its_requests}
use Rattle.server_history.proofs.state.PortSlots.{of_ready, used_or_not, used_ready}
use Rattle.server_history.proofs.state.ServerInstant.{served_is}

-- a ready port is served
pub ready_served : (found : ProbeResult) → state_of found ≡ ReadyState → is_served found ≡ true
ready_served Unserved ready = let z : Absent ≡ ReadyState = ready in absurd cc
ready_served (Ready info) ready = refl
ready_served (Unready state) ready = refl

module _ (laws : PrerequisiteLaws) (s : ServerState) (k : InCallInvariant s) where
  -- of a port that isn't ready nobody is issued
  none_issued : (port : Port) → state_of (probe_result_of s.probe_results port.0) ≢ ReadyState → issued_of port s.book ≡ 0
  none_issued port other = ap (count_by (λ (e : BookEntry). e.request.issued)) (nobody (requests_of port s.book) (λ e here.
      let w = (its_requests port s k.book_is_well_formed k.entries_are_well_formed).here e here in
      other (ap (λ (q : Port). state_of (probe_result_of s.probe_results q.0)) (sym w.1) ∙ of_ready s k e w.0)))

  have_places : (port : Port) → length (quarantined_at s.kept_loans port.0) + issued_of port s.book ≤ 32
  have_places port = ⊎_elim
      (λ (ready : state_of (probe_result_of s.probe_results port.0) ≡ ReadyState).
      let p = places laws s port k ready in
      let none = ap length p.0 in
      let few = p.1 in
      omega (arith, none, few))
      (λ (other : state_of (probe_result_of s.probe_results port.0) ≢ ReadyState). let few = k.at_most_32_loans_kept_by_port port.0 in let none = none_issued port other in omega (arith, few, none))
      (ready_or_not (state_of (probe_result_of s.probe_results port.0)))

  pub booked : ServerInvariant s
  booked = record {
    driver_memory_fits = k.driver_memory_fits;
    served_iff_wanted_and_there = λ port low. served_is (wanted_of s.wanted port) (probe_result_of s.probe_results port) port s.device (k.port_invariant port low).probe_result_is_backed;
    served_are_below_4 = λ port its. (k.served_ports_exist port its).0;
    unserved_are_idle = λ port low unserved. (subst (λ (f : ProbeResult). StillBacksProbeResult (wanted_of s.wanted port) f port s.device) unserved (k.port_invariant port low).probe_result_is_backed).1;
    unserved_use_no_slot = λ port slot unserved. ⊎_elim
        (λ u. let z : Absent ≡ ReadyState = sym (ap state_of unserved) ∙ used_ready s port slot u.0 k u.1 in absurd cc)
        (λ (none : used_for s.slots port slot ≡ None). none)
        (used_or_not (used_for s.slots port slot));
    slots_are_of_four_ports = k.slots_are_of_four_ports;
    modes_are_of_four_ports = k.modes_are_of_four_ports;
    remembered_is_of_four_ports = k.remembered_is_of_four_ports;
    kept_loans_are_of_four_ports = k.kept_loans_are_of_four_ports;
    kept_loans_have_room = have_places;
    rows_are_valid = k.rows_are_valid;
    owned_frames_are_clients = k.owned_frames_are_clients;
    entries_are_well_formed = k.entries_are_well_formed;
    book_is_well_formed = k.book_is_well_formed;
    revoked_marks_agree = k.revoked_marks_agree;
    ids_were_handed_out = k.ids_were_handed_out;
    requests_are_of_served_ports = All-weaker (λ (e : BookEntry). state_of (probe_result_of s.probe_results e.request.port.0) ≡ ReadyState) (λ (e : BookEntry). is_served (probe_result_of s.probe_results e.request.port.0) ≡ true)
        (λ e ready. ready_served (probe_result_of s.probe_results e.request.port.0) ready) s.book k.requests_are_of_ready_ports;
    machine = k.machine;
    reached = k.reached;
    machine_relation = k.machine_relation;
  }

-- so its requests may meet their fates
pub may_settle : (s : ServerState) → ServerInvariant s → MayResolve s
may_settle s b = record { kept_loans_are_of_four_ports = b.kept_loans_are_of_four_ports; book_is_well_formed = b.book_is_well_formed; entries_are_well_formed = b.entries_are_well_formed; kept_loans_have_room = b.kept_loans_have_room }

-- and those of the other ports may still, once those of one port met theirs
module _ (laws : PrerequisiteLaws) (s new : ServerState) (port : Port) (replies : List Reply) (low : port.0 < 4) (may : MayResolve s) (settles : ResolvesPort port replies s new) where
  pub left : IsLeft port (disposition_of None settles.revalidation) (requests_of port s.book) (book_and_loans_of port s) settles.book_and_loans_after
  left = fated laws port (disposition_of None settles.revalidation) (requests_of port s.book) (fits_each None settles.revalidation (requests_of port s.book)) replies (book_and_loans_of port s) settles.book_and_loans_after (its_requests port s may.book_is_well_formed may.entries_are_well_formed) settles.are_resolved

  pub kept_same : quarantined_at (with_book_and_loans port settles.book_and_loans_after s).kept_loans port.0 ≡ settles.book_and_loans_after.kept
  kept_same = get_or-set_same s.kept_loans port.0 settles.book_and_loans_after.kept [] (let four = may.kept_loans_are_of_four_ports in omega (arith, four, low))

  pub kept_other : (q : ℕ) → q ≢ port.0 → quarantined_at (with_book_and_loans port settles.book_and_loans_after s).kept_loans q ≡ quarantined_at s.kept_loans q
  kept_other q other = get_or-set_other s.kept_loans port.0 q settles.book_and_loans_after.kept [] other

  places_then : (q : Port) → length (quarantined_at (with_book_and_loans port settles.book_and_loans_after s).kept_loans q.0) + issued_of q settles.book_and_loans_after.book ≤ 32
  places_then q = ⊎_elim
      (λ (same : q.0 ≡ port.0).
      let its : port ≡ q = ap (λ (n : ℕ). record { 0 = n }) (sym same) in
      subst (λ (p : Port). length (quarantined_at (with_book_and_loans port settles.book_and_loans_after s).kept_loans p.0) + issued_of p settles.book_and_loans_after.book ≤ 32) its
      (let long = ap length kept_same in let were = may.kept_loans_have_room port in let less = left.places in omega (arith, long, were, less)))
      (λ (other : q.0 ≢ port.0). let long = ap length (kept_other q.0 other) in let were = may.kept_loans_have_room q in let less = left.fewer q in omega (arith, long, were, less))
      (cases_eq q.0 port.0)

  pub settles_on : MayResolve new
  settles_on = subst MayResolve (sym settles.server_is) (record {
    kept_loans_are_of_four_ports = length-set s.kept_loans port.0 settles.book_and_loans_after.kept ∙ may.kept_loans_are_of_four_ports;
    book_is_well_formed = left.ordered;
    entries_are_well_formed = left.accepted;
    kept_loans_have_room = places_then;
  })

-- and so on, port by port
pub all_settle_on : PrerequisiteLaws → (found : List ProbeResult) (n : ℕ) → n + length found ≤ 4 → (replies : List Reply) (old new : ServerState) → ResolvesEachPort n found replies old new → MayResolve old → MayResolve new
all_settle_on laws [] n few replies old new (none, same) may = subst MayResolve (sym same) may
all_settle_on laws (found ∷ rest) n few replies old new (mid, its, later, split, one, more) may =
    all_settle_on laws rest (n + 1) (omega (arith, few)) later mid new more (settles_on laws old mid (port_at n) its (omega (arith, few)) may one)
