use Rattle.std.proofs.Common.{Some, ℕ, ◌≡◌, ◌≤◌, ◌+◌, ◌++◌, ◌∷◌, List, Ok, length, refl, sym, ap, ◌∙◌, [], subst, arith, get_or, set, slice_set, rules}
use Rattle.ata_types.specs.declared.Port.{Port}
use Rattle.host_boot.specs.TakeOver.{probe_result_of}
use Rattle.ata_types.specs.declared.request.Frame.{Frame}
use Rattle.block_machine.specs.Events.{Submit, Submitted}
use Rattle.block_machine.specs.DueRequests.{due_of}
use Rattle.block_machine.specs.declared.due.QueueMode.{QueueMode}
use Rattle.block_machine.specs.declared.due.Unanswered.{Unanswered}
use Rattle.ata_types.specs.declared.request.RequestId.{RequestId}
use Rattle.block_machine.specs.Refusals.{IsAcceptable}
use Rattle.block_machine.specs.Rules.{HasNoFault}
use Rattle.dma_frames.specs.FrameTables.{OwnersAndLoans, SetsLoanOnly, owner_of, lent_to}
use Rattle.block_server.specs.Calls.{AcceptsRequest, IsRequestForPort}
use Rattle.port_driver.specs.PortAndShared.{HasPortAt}
use Rattle.block_server.specs.FourPorts.{by_port}
use Rattle.port_driver.specs.LentSlots.{HasPortToIssue, with_port_slots}
use Rattle.port_driver.specs.declared.served_port.ServedPort.{ServedPort}
use Rattle.block_server.proofs.Placing as placing
use Rattle.block_server.specs.ServerFieldsView.{server_view_of}
use Rattle.block_server.specs.ServerView.{ServerView, server_of}
use Rattle.request_queue.specs.BookEntries.{BookEntry, as_unanswered, unanswered_of}
use Rattle.server_history.specs.Histories.{ExtendsHistory}
use Rattle.server_history.specs.IssuingAndAnswering.{AcceptsAndIssues, accepted_as, with_accepted}
use Rattle.server_history.specs.ServerState.{ServerState, mode_in, admission_context, state_of}
use Rattle.block_server.proofs.Standing.{is_on, of_on}
use Rattle.block_server.proofs.Accepting as accepted
use Rattle.block_server.proofs.Newest as newest
use Rattle.block_server.proofs.server.Server.accept.Given.{Over}
use Rattle.block_server.proofs.server.Server.accept.Goals as goal
use Rattle.block_server.proofs.server.Server.accept.Goals.{After-as_slice, After-submit}

pub overflow_add-id : goal.overflow_add-id
overflow_add-id g c = let h = accepted.next_fits (server_of g.A.Adapter.device (server_view_of c.self.inside)) c.args.r.now (subst (λ (v : ServerView g.row.A.Denot). IsAcceptable (admission_context (server_of g.A.Adapter.device v)) c.args.r.now) (sym c.self.view_is) c.requires.acceptable) in omega (arith, h)

pub submit-requires-clause-frames_have_no_fault_and_are_few : goal.submit-requires-clause-frames_have_no_fault_and_are_few
submit-requires-clause-frames_have_no_fault_and_are_few g c = (
  subst (λ (frames : List Frame). HasNoFault (owner_of c.self.inside.shared.table.value) (lent_to c.self.inside.shared.table.value) c.args.r.now.client frames) (sym c.as_slice.ensures.value)
      (accepted.faultless (server_of g.A.Adapter.device (server_view_of c.self.inside)) c.args.r.now (subst (λ (v : ServerView g.row.A.Denot). IsAcceptable (admission_context (server_of g.A.Adapter.device v)) c.args.r.now) (sym c.self.view_is) c.requires.acceptable)),
  c.as_slice.ensures.fits,
)

pub submit-requires-clause-client_has_room : goal.submit-requires-clause-client_has_room
submit-requires-clause-client_has_room g c = accepted.has_place (server_of g.A.Adapter.device (server_view_of c.self.inside)) c.args.r.now (subst (λ (v : ServerView g.row.A.Denot). IsAcceptable (admission_context (server_of g.A.Adapter.device v)) c.args.r.now) (sym c.self.view_is) c.requires.acceptable) (is_on g.A.Adapter.device (server_view_of c.self.inside) c.args.self.now c.self.view_is c.requires.on c.self.invariant).in_call_invariant c.args.port (subst (λ (v : ServerView g.row.A.Denot). IsRequestForPort v.grants c.args.r.now c.args.port) (sym c.self.view_is) c.requires.port)

pub submit-requires-clause-is_newly_accepted : goal.submit-requires-clause-is_newly_accepted
submit-requires-clause-is_newly_accepted g c = search rules

-- the port that it is for
abbrev its_port : (g : Over) (c : After-as_slice g) → ServedPort
its_port g c = get_or c.self.inside.ports c.from.result c.index-self-from.result

has_port : (g : Over) (c : After-as_slice g) → HasPortAt (server_of g.A.Adapter.device (server_view_of c.self.inside)) c.args.port.0 (its_port g c)
has_port g c =
    let v = c.self.inside in
    let four = placing.four_ports v.ports (is_on g.A.Adapter.device (server_view_of c.self.inside) c.args.self.now c.self.view_is c.requires.on c.self.invariant).in_call_invariant.slots_are_of_four_ports in
    let small = accepted.low (server_of g.A.Adapter.device (server_view_of c.self.inside)) c.args.r.now (subst (λ (v : ServerView g.row.A.Denot). IsAcceptable (admission_context (server_of g.A.Adapter.device v)) c.args.r.now) (sym c.self.view_is) c.requires.acceptable) (is_on g.A.Adapter.device (server_view_of c.self.inside) c.args.self.now c.self.view_is c.requires.on c.self.invariant).in_call_invariant c.args.port (subst (λ (v : ServerView g.row.A.Denot). IsRequestForPort v.grants c.args.r.now c.args.port) (sym c.self.view_is) c.requires.port) in
    let from = c.from.ensures in
    placing.has_at_place (server_of g.A.Adapter.device (server_view_of c.self.inside)) (g.A.Adapter.device v.adapter) v.shared v.ports c.args.port.0 c.from.result from c.index-self-from.result (omega (arith, four, small, from))

-- the book with it
abbrev its_book : (g : Over) (c : After-as_slice g) → List BookEntry
its_book g c = c.self.inside.shared.book ++ record { request = (accepted_as c.args.port c.args.r.now (record { 0 = c.self.inside.last + 1 })).request; frames = c.as_slice.result.now } ∷ []

-- what the server has once it is accepted
lends : (g : Over) (c : After-as_slice g) (table : OwnersAndLoans) → SetsLoanOnly c.self.inside.shared.table.value table c.as_slice.result.now (Some (record { 0 = c.self.inside.last + 1 }))
    → HasPortToIssue (with_accepted c.args.port c.args.r.now (record { 0 = c.self.inside.last + 1 }) table (server_of g.A.Adapter.device (server_view_of c.self.inside))) (g.A.Adapter.device c.self.inside.adapter) (its_book g c) (its_port g c).slots c.args.port (its_port g c).mode (its_port g c).probe_result
lends g c table lent =
    accepted.lends (server_of g.A.Adapter.device (server_view_of c.self.inside)) c.args.r.now (subst (λ (v : ServerView g.row.A.Denot). IsAcceptable (admission_context (server_of g.A.Adapter.device v)) c.args.r.now) (sym c.self.view_is) c.requires.acceptable) (is_on g.A.Adapter.device (server_view_of c.self.inside) c.args.self.now c.self.view_is c.requires.on c.self.invariant).in_call_invariant c.args.port (subst (λ (v : ServerView g.row.A.Denot). IsRequestForPort v.grants c.args.r.now c.args.port) (sym c.self.view_is) c.requires.port)
    c.law_requests_preserve_invariant.ensures.accepted (record { 0 = c.self.inside.last + 1 }) refl c.as_slice.result.now c.as_slice.ensures.value
    table lent (its_book g c) refl
    (its_port g c).slots (has_port g c).slots_are (its_port g c).mode (has_port g c).mode_is (its_port g c).probe_result (has_port g c).probe_result_is

pub submit-requires-clause-may_issue_then : goal.submit-requires-clause-may_issue_then
submit-requires-clause-may_issue_then g c =
    let at = (goal.at.submit-requires-clause-may_issue_then g c).After-as_slice in
    let is_for = (subst (λ (v : ServerView g.row.A.Denot). IsRequestForPort v.grants c.args.r.now c.args.port) (sym c.self.view_is) c.requires.port) in
    λ table lent. record {
      ready = ap state_of (sym (has_port g at).probe_result_is) ∙ (ap (λ (p : Port). state_of (probe_result_of (server_of g.A.Adapter.device (server_view_of c.self.inside)).probe_results p.0)) (sym is_for.2) ∙ c.law_requests_preserve_invariant.ensures.acceptable_is_of_ready_port (server_of g.A.Adapter.device (server_view_of c.self.inside)) c.args.r.now is_for.0 (subst (λ (v : ServerView g.row.A.Denot). IsAcceptable (admission_context (server_of g.A.Adapter.device v)) c.args.r.now) (sym c.self.view_is) c.requires.acceptable) is_for.1);
      some_server_has_port = (with_accepted c.args.port c.args.r.now (record { 0 = c.self.inside.last + 1 }) table (server_of g.A.Adapter.device (server_view_of c.self.inside)), lends g at table lent);
    }

abbrev at_issuing : (g : Over) (c : After-submit g) → After-as_slice g
at_issuing g c = (goal.at.returns-clause-cost g c).After-as_slice

-- the server then
abbrev after : (g : Over) (c : After-submit g) → ServerView g.row.A.Denot
after g c = server_view_of (record c.self.inside {
  adapter = c.submit.new.adapter;
  shared = c.submit.new.shared;
  ports = set c.self.inside.ports c.from.result c.submit.new.self;
  last = c.self.inside.last + 1;
})

-- what was due then is issued
sent : (g : Over) (c : After-submit g) → AcceptsAndIssues c.args.port c.args.r.now (record { 0 = c.self.inside.last + 1 }) (server_of g.A.Adapter.device (server_view_of c.self.inside)) (server_of g.A.Adapter.device (after g c))
sent g c =
    let v = c.self.inside in
    let s = (server_of g.A.Adapter.device (server_view_of c.self.inside)) in
    let id : RequestId = (record { 0 = c.self.inside.last + 1 }) in
    let table = c.submit.new.shared.table.value in
    let accepts = accepted.accepts s c.args.r.now (subst (λ (v : ServerView g.row.A.Denot). IsAcceptable (admission_context (server_of g.A.Adapter.device v)) c.args.r.now) (sym c.self.view_is) c.requires.acceptable) (is_on g.A.Adapter.device (server_view_of c.self.inside) c.args.self.now c.self.view_is c.requires.on c.self.invariant).in_call_invariant c.args.port (subst (λ (v : ServerView g.row.A.Denot). IsRequestForPort v.grants c.args.r.now c.args.port) (sym c.self.view_is) c.requires.port)
    c.law_requests_preserve_invariant.ensures.accepted id refl c.as_slice.result.now c.as_slice.ensures.value
    table c.submit.ensures.frames_are_lent_to_request (its_book g (at_issuing g c)) refl in
    let more : ServerState = with_accepted c.args.port c.args.r.now id table s in
    let new = g.A.Adapter.device c.submit.new.adapter in
    let u = c.submit.new.self.slots in
    subst (AcceptsAndIssues c.args.port c.args.r.now id s) (sym (placing.slots_placed (record s { last_id = v.last + 1 }) v.ports c.from.result c.index-self-from.result new c.submit.new.shared c.submit.new.self c.submit.ensures.issues_due.only_slots_change))
    (subst (λ (n : ℕ). AcceptsAndIssues c.args.port c.args.r.now id s (record more { device = new; slots = slice_set (by_port (λ p. p.slots) v.ports) n u; book = c.submit.new.shared.book })) (sym c.from.ensures)
    (accepts (with_port_slots more new c.submit.new.shared.book u c.args.port) (c.submit.ensures.issues_due.issues_all_due more (lends g (at_issuing g c) table c.submit.ensures.frames_are_lent_to_request))))

pub invariant_of-self : goal.invariant_of-self
invariant_of-self g c = of_on c.self.view_is c.requires.on (
    (c.law_acceptances_extend_history.ensures (server_of g.A.Adapter.device (server_view_of c.self.inside)) (server_of g.A.Adapter.device (after g c)) c.args.port c.args.r.now (record { 0 = c.self.inside.last + 1 }) (is_on g.A.Adapter.device (server_view_of c.self.inside) c.args.self.now c.self.view_is c.requires.on c.self.invariant) (subst (λ (v : ServerView g.row.A.Denot). IsAcceptable (admission_context (server_of g.A.Adapter.device v)) c.args.r.now) (sym c.self.view_is) c.requires.acceptable) (sent g c)).invariant_with_none_due)

pub returns-clause-accepts : goal.returns-clause-accepts
returns-clause-accepts g c =
    subst (λ (v : ServerView g.row.A.Denot). AcceptsRequest g.A.Adapter.device v (after g c) c.args.r.now (record { 0 = c.self.inside.last + 1 })) c.self.view_is (record {
      acceptable = (subst (λ (v : ServerView g.row.A.Denot). IsAcceptable (admission_context (server_of g.A.Adapter.device v)) c.args.r.now) (sym c.self.view_is) c.requires.acceptable);
      port = c.args.port;
      accepts = sent g c;
      stuck_is_unchanged = refl;
      no_access_if_none_due = λ none.
          let book = accepted.its_book (server_of g.A.Adapter.device (server_view_of c.self.inside)) c.args.r.now (subst (λ (v : ServerView g.row.A.Denot). IsAcceptable (admission_context (server_of g.A.Adapter.device v)) c.args.r.now) (sym c.self.view_is) c.requires.acceptable) (is_on g.A.Adapter.device (server_view_of c.self.inside) c.args.self.now c.self.view_is c.requires.on c.self.invariant).in_call_invariant c.args.port (subst (λ (v : ServerView g.row.A.Denot). IsRequestForPort v.grants c.args.r.now c.args.port) (sym c.self.view_is) c.requires.port)
          c.law_requests_preserve_invariant.ensures.accepted (record { 0 = c.self.inside.last + 1 }) refl c.as_slice.result.now c.as_slice.ensures.value
          c.submit.new.shared.table.value c.submit.ensures.frames_are_lent_to_request (its_book g (at_issuing g c)) refl in
          c.submit.ensures.issues_due.none_due_no_access (subst (λ (b : List BookEntry). due_of (its_port g (at_issuing g c)).mode c.args.port (unanswered_of b) ≡ []) book
          (subst (λ (m : QueueMode). due_of m c.args.port (unanswered_of (with_accepted c.args.port c.args.r.now (record { 0 = c.self.inside.last + 1 }) (sent g c).table (server_of g.A.Adapter.device (server_view_of c.self.inside))).book) ≡ []) (has_port g (at_issuing g c)).mode_is none));
    })

pub returns-clause-extends_history : goal.returns-clause-extends_history
returns-clause-extends_history g c =
    subst (λ (v : ServerView g.row.A.Denot). ExtendsHistory (server_of g.A.Adapter.device v) (server_of g.A.Adapter.device (after g c)) (Submit c.args.r.now) (Submitted (Ok (record { 0 = c.self.inside.last + 1 })))) c.self.view_is
    (c.law_acceptances_extend_history.ensures (server_of g.A.Adapter.device (server_view_of c.self.inside)) (server_of g.A.Adapter.device (after g c)) c.args.port c.args.r.now (record { 0 = c.self.inside.last + 1 }) (is_on g.A.Adapter.device (server_view_of c.self.inside) c.args.self.now c.self.view_is c.requires.on c.self.invariant) (subst (λ (v : ServerView g.row.A.Denot). IsAcceptable (admission_context (server_of g.A.Adapter.device v)) c.args.r.now) (sym c.self.view_is) c.requires.acceptable) (sent g c)).extends_history

-- of the requests, the one that is accepted may be due alone
pub returns-clause-cost : goal.returns-clause-cost
returns-clause-cost g c =
    let s = server_of g.A.Adapter.device (server_view_of c.self.inside) in
    let settled = is_on g.A.Adapter.device (server_view_of c.self.inside) c.args.self.now c.self.view_is c.requires.on c.self.invariant in
    let id : RequestId = record { 0 = c.self.inside.last + 1 } in
    let exact = c.law_due_of_port_is_exact.ensures in
    let m = mode_in s c.args.port in
    let book = unanswered_of s.book in
    let its = as_unanswered (accepted_as c.args.port c.args.r.now id).request in
    let none : due_of m c.args.port book ≡ [] =
    newest.none_of_them m c.args.port book (λ x has. (exact.due_are_of_port m c.args.port book x has, (exact.exact m c.args.port book x (exact.due_are_of_port m c.args.port book x has)).0 has)) (settled.none_is_due c.args.port) in
    let alone = newest.due_alone m book its refl c.args.port (newest.all_earlier s.book s.last_id its refl settled.in_call_invariant.ids_were_handed_out) none in
    let there : unanswered_of (its_book g (at_issuing g c)) ≡ book ++ its ∷ [] = newest.asks_more s.book (record { request = (accepted_as c.args.port c.args.r.now id).request; frames = c.as_slice.result.now }) in
    let few : length (due_of m c.args.port (unanswered_of (its_book g (at_issuing g c)))) ≤ 1 = subst (λ (xs : List Unanswered). length (due_of m c.args.port xs) ≤ 1) (sym there) alone in
    let one : length (due_of (its_port g (at_issuing g c)).mode c.args.port (unanswered_of (its_book g (at_issuing g c)))) ≤ 1 = subst (λ (m : QueueMode). length (due_of m c.args.port (unanswered_of (its_book g (at_issuing g c)))) ≤ 1) (has_port g (at_issuing g c)).mode_is few in
    let same = ap (λ (v : ServerView g.row.A.Denot). g.A.Adapter.access_count v.adapter) c.self.view_is in
    omega (arith, one, same, c.submit.ensures.issues_due.cost_per_due_request)
