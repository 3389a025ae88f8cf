-- A port was recovered, and its requests are resolved: what is asked of the calls, and what the server then is.
use Rattle.std.proofs.Common.{ℕ, ◌≡◌, ◌≢◌, ◌⊎◌, inl, inr, ◌<◌, ◌≤◌, ◌++◌, List, [], map, length, take, drop, filter, get_or, set, Option, Some, None, refl, sym, ap, ◌∙◌, subst, arith, append_assoc, ⊎_elim}
use Rattle.std.specs.List.{AllPairs, count_by}
use Rattle.std.specs.List.Sorted.{IsPermutation}
use Rattle.std.proofs.lemmas.Bool.{cases_lt}
use Rattle.std.proofs.Math.Seq.{drop-append_seam, take-append_seam}
use Rattle.std.proofs.lemmas.List.{get_or_default, get_or_past, get_or-set_same, length-append, set-set}
use Rattle.std.proofs.lemmas.List.Sorted.{length_permutation}
use Rattle.ata_types.specs.declared.Port.{Port}
use Rattle.ata_types.specs.declared.PortState.TheVariants.{Absent, Ready as ReadyState}
use Rattle.ata_types.specs.declared.request.Reply.{Reply}
use Rattle.ata_types.specs.declared.limits.TheConstants.{MOST_READINGS}
use Rattle.adapter.specs.Device.{Device}
use Rattle.refinement.specs.Fragments.{AnySlotStates, IsSimulated}
use Rattle.block_machine.specs.declared.due.QueueMode.{QueueMode}
use Rattle.dma_frames.specs.Loan.{Lending}
use Rattle.dma_frames.specs.FrameTables.{OwnersAndLoans}
use Rattle.error_recovery.specs.Recovery.{EndsAsNext}
use Rattle.error_recovery.specs.declared.Next.{Next}
use Rattle.error_recovery.specs.declared.Next.TheVariants.{Restart}
use Rattle.host_boot.specs.TakeOver.{probe_result_of, wanted_of}
use Rattle.host_boot.specs.declared.ProbeResult.{ProbeResult}
use Rattle.host_boot.specs.Reboots.{RebootsPort}
use Rattle.host_boot.specs.declared.Booted.{Booted}
use Rattle.host_boot.specs.declared.ProbeResult.TheVariants.{Ready, Unready, Unserved}
use Rattle.identify.specs.declared.DiskInfo.{DiskInfo}
use Rattle.identify.specs.declared.wanted.Wanted.{Wanted}
use Rattle.port_boot.specs.States.{IsOnWithPortMemoryAndFreeSlots}
use Rattle.port_control.specs.Ports.{IsStopped}
use Rattle.port_control.specs.declared.Stopped.{Stopped}
use Rattle.port_control.specs.PortEvents.{IsPxisSstsOrOwnIsAccess}
use Rattle.request_queue.specs.BookEntries.{BookEntry, is_of_port}
use Rattle.request_queue.specs.Dispositions.{BookAndLoans, AreResolved, disposition_of}
use Rattle.request_queue.specs.declared.disposition.FailedRequest.{FailedRequest}
use Rattle.request_queue.specs.declared.disposition.Revalidation.{Revalidation}
use Rattle.server_history.specs.ErrorHandling.{RebootsAfterErrorOrFindsAbsent, IsFailedRequest, IsFoundAfterError, IsRevalidation, IsErrorHandled, HasResolved, HandlesPortError, requests_of, with_port_resolved}
use Rattle.server_history.specs.IssuingAndAnswering.{IssuesDueOfPort, done_reply}
use Rattle.server_history.specs.ServerState.{ServerState, InCallInvariant, InvariantWithNoneDue, quarantined_at, mode_at, probed_mode, mode_in, no_slots, plain_mode, slots_at, state_of}
use Rattle.server_history.specs.Turns.{IsPortTurn, InRestart, ServicesPort}
use Rattle.port_control.specs.declared.events.PortError.{PortError}
use Rattle.port_control.specs.declared.events.PortError.TheVariants.{FatalError, TaskFileError, TimedOut, LinkChanged}
use Rattle.slots.specs.SlotUses.{PortSlots, use_at}
use Rattle.port_driver.specs.LoanRoom.{HaveRoomForIssuedLoans, BookIsSound, book_and_loans}
use Rattle.port_driver.specs.LentSlots.{HasPortToIssue, with_port_slots}
use Rattle.port_driver.specs.Recovery.{HandlesPortErrorOf, AnswersDoneAndHandlesError, SeesPortError}
use Rattle.port_driver.proofs.Sending.{ready_there}

-- what laws say of what comes after a recovery
pub record RestoringLaws : Type 0 where
  pub bootable : (s mid : ServerState) (device : Device) (port : Port) (token : Stopped) → InCallInvariant s → state_of (probe_result_of s.probe_results port.0) ≡ ReadyState → (r : IsErrorHandled port s mid device)
      → IsSimulated (IsPxisSstsOrOwnIsAccess port) AnySlotStates s.device r.device_after_look → r.result.next ≡ Restart token → IsOnWithPortMemoryAndFreeSlots port device × IsStopped (device.port port.0) × ((device.port port.0).notes.link_wait_count ≡ MOST_READINGS)
  pub mode : (s mid : ServerState) (device : Device) (port : Port) → InCallInvariant s → state_of (probe_result_of s.probe_results port.0) ≡ ReadyState → (r : IsErrorHandled port s mid device)
      → IsSimulated (IsPxisSstsOrOwnIsAccess port) AnySlotStates s.device r.device_after_look → mode_in s port ≡ probed_mode device.cap (probe_result_of s.probe_results port.0)
  pub places : (s : ServerState) (port : Port) → InCallInvariant s → state_of (probe_result_of s.probe_results port.0) ≡ ReadyState
      → (quarantined_at s.kept_loans port.0 ≡ []) × (count_by (λ (e : BookEntry). e.request.issued) (requests_of port s.book) ≤ 32)
  pub settled : (s new : ServerState) (port : Port) (later : List Reply) → InCallInvariant s → state_of (probe_result_of s.probe_results port.0) ≡ ReadyState → (a : HasResolved port later s new)
      → IsSimulated (IsPxisSstsOrOwnIsAccess port) AnySlotStates s.device a.error_handled.device_after_look → InCallInvariant new
  pub error_handled : (s new : ServerState) (port : Port) (replies : List Reply) → InvariantWithNoneDue s → state_of (probe_result_of s.probe_results port.0) ≡ ReadyState → (r : HandlesPortError port replies s new)
      → r.has_resolved.error_handled.port_error ≢ TimedOut → IsSimulated (IsPxisSstsOrOwnIsAccess port) AnySlotStates s.device r.has_resolved.error_handled.device_after_look → ServicesPort port replies s new × InvariantWithNoneDue new
  pub restarted : (s new : ServerState) (port : Port) (replies : List Reply) → InvariantWithNoneDue s → state_of (probe_result_of s.probe_results port.0) ≡ ReadyState → (r : HandlesPortError port replies s new)
      → r.has_resolved.error_handled.port_error ≡ TimedOut → IsPortTurn InRestart port replies s new × InvariantWithNoneDue new

-- a port whose disk wasn't lost is booted anew, whatever shows
pub boots_other : (port_error : PortError) (wanted : Wanted) (port : Port) (booted : Booted) (old new : Device) → port_error ≢ LinkChanged → RebootsPort wanted port booted old new → RebootsAfterErrorOrFindsAbsent port_error wanted port booted old new
boots_other LinkChanged wanted port booted old new other boots = absurd (other refl)
boots_other FatalError wanted port booted old new other boots = boots
boots_other TaskFileError wanted port booted old new other boots = boots
boots_other TimedOut wanted port booted old new other boots = boots

-- it is booted, or absent
pub boots_or_absent : (port_error : PortError) (wanted : Wanted) (port : Port) (booted : Booted) (old new : Device) → RebootsAfterErrorOrFindsAbsent port_error wanted port booted old new → RebootsPort wanted port booted old new ⊎ (booted.found ≡ Unready Absent)
boots_or_absent LinkChanged wanted port booted old new b = ⊎_elim (λ boots. inl boots.0) (λ absent. inr absent.0) b
boots_or_absent FatalError wanted port booted old new b = inl b
boots_or_absent TaskFileError wanted port booted old new b = inl b
boots_or_absent TimedOut wanted port booted old new b = inl b

-- a port that was recovered: what trouble was seen of it, and what recovery left
pub record Recovery : Type 0 where
  pub laws : RestoringLaws
  pub s : ServerState
  pub port : Port
  pub port_error : PortError
  pub first : Device
  pub sees : SeesPortError s port port_error first
  pub was : DiskInfo
  pub is_ready : probe_result_of s.probe_results port.0 ≡ Ready was
  pub before : List Reply
  pub told : List Reply
  pub failed : Option FailedRequest
  pub next : Next
  pub t : OwnersAndLoans
  pub b : List BookEntry
  pub u : PortSlots
  pub one : Device
  pub rest : AnswersDoneAndHandlesError port port_error before told failed next s t b u one

-- what it was found to be then, and how its requests were resolved
pub record Restoration (x : Recovery) : Type 0 where
  pub two : Device
  pub found : ProbeResult
  pub is_found : IsFoundAfterError (wanted_of x.s.wanted x.port.0) x.port x.port_error x.was x.next x.one two found
  pub mode : QueueMode
  pub mode_is : mode ≡ probed_mode two.cap found
  pub fresh : PortSlots
  pub usable : fresh.usable_count ≡ mode.usable_slots
  pub as_many : length fresh.slot_uses ≡ 32
  pub free : (slot : ℕ) → use_at fresh slot ≡ None
  pub revalidation : Revalidation
  pub expects : IsRevalidation x.port_error x.was found revalidation
  pub now : BookAndLoans
  pub later : List Reply
  pub meets : AreResolved (disposition_of x.failed revalidation) (requests_of x.port x.b) later (book_and_loans x.b x.t (quarantined_at x.s.kept_loans x.port.0)) now

-- the server then
abbrev pub then : (x : Recovery) → Restoration x → ServerState
then x y = with_port_resolved x.port y.two y.found x.was y.mode y.fresh y.now x.s

-- what is due was issued, and the replies stand in order
pub record Ordered (x : Recovery) (y : Restoration x) : Type 0 where
  pub settled : InvariantWithNoneDue x.s
  pub three : Device
  pub book : List BookEntry
  pub slots : PortSlots
  pub issues : IssuesDueOfPort x.port (then x y) (with_port_slots (then x y) three book slots x.port)
  pub all : List Reply
  pub its : List Reply
  pub after : List Reply
  pub all_is : all ≡ x.told ++ y.later
  pub sorted : after ≡ take (length x.before) all ++ its
  pub moved : IsPermutation its (drop (length x.before) all)
  pub ordered : AllPairs (λ (a b : Reply). a.id.0 ≤ b.id.0) its

module _ (x : Recovery) where
  low : x.port.0 < 4
  low = (ready_there x.s x.port x.sees.in_call_invariant x.sees.ready).0

  mid_ready : state_of (probe_result_of x.rest.server_after_done_answers.probe_results x.port.0) ≡ ReadyState
  mid_ready = ap (λ (n : ServerState). state_of (probe_result_of n.probe_results x.port.0)) x.rest.mid_server_has_parts ∙ x.sees.ready

  pub mode_then : (mode : QueueMode) → mode ≡ mode_at x.s.modes x.port.0 → mode ≡ probed_mode x.one.cap (Ready x.was)
  mode_then mode said = said ∙ x.laws.mode x.s x.rest.server_after_done_answers x.one x.port x.sees.in_call_invariant x.sees.ready x.rest.error_handled x.rest.is_simulated ∙ ap (probed_mode x.one.cap) x.is_ready

  -- the token is of the port
  pub token_of : (stopped : Stopped) → x.next ≡ Restart stopped → stopped.port ≡ x.port
  token_of stopped is = (subst (λ (way : Next). EndsAsNext x.rest.error_handled.queued x.port way x.rest.server_after_done_answers.device x.one) (x.rest.next_is ∙ is) x.rest.error_handled.recovers_or_stops.leaves.ends_as_next).0

  pub bootable : (stopped : Stopped) → x.next ≡ Restart stopped → IsOnWithPortMemoryAndFreeSlots stopped.port x.one × IsStopped (x.one.port stopped.port.0) × ((x.one.port stopped.port.0).notes.link_wait_count ≡ MOST_READINGS)
  bootable stopped is =
      subst (λ (q : Port). IsOnWithPortMemoryAndFreeSlots q x.one × IsStopped (x.one.port q.0) × ((x.one.port q.0).notes.link_wait_count ≡ MOST_READINGS)) (sym (token_of stopped is))
      (x.laws.bootable x.s x.rest.server_after_done_answers x.one x.port stopped x.sees.in_call_invariant x.sees.ready x.rest.error_handled x.rest.is_simulated (x.rest.next_is ∙ is))

  pub sound : BookIsSound x.t x.b
  sound = subst (λ (n : ServerState). BookIsSound n.table n.book) x.rest.mid_server_has_parts (record { book_is_well_formed = x.rest.in_call_invariant.book_is_well_formed; entries_are_well_formed = x.rest.in_call_invariant.entries_are_well_formed })

  places : (quarantined_at x.s.kept_loans x.port.0 ≡ []) × (count_by (λ (e : BookEntry). e.request.issued) (requests_of x.port x.b) ≤ 32)
  places = subst (λ (n : ServerState). (quarantined_at n.kept_loans x.port.0 ≡ []) × (count_by (λ (e : BookEntry). e.request.issued) (requests_of x.port n.book) ≤ 32)) x.rest.mid_server_has_parts (x.laws.places x.rest.server_after_done_answers x.port x.rest.in_call_invariant mid_ready)

  pub kept_said : (number : ℕ) → number ≡ x.port.0 → (default : List Lending) → quarantined_at x.s.kept_loans x.port.0 ≡ get_or x.s.kept_loans number default
  kept_said number is default = let f = x.sees.in_call_invariant.kept_loans_are_of_four_ports in let l = low in get_or_default x.s.kept_loans x.port.0 [] default (omega (arith, f, l)) ∙ ap (λ (n : ℕ). get_or x.s.kept_loans n default) (sym is)

  pub have_places : (number : ℕ) → number ≡ x.port.0 → (default : List Lending) → HaveRoomForIssuedLoans (filter (λ (e : BookEntry). is_of_port x.port e.request) x.b) (get_or x.s.kept_loans number default)
  have_places number is default =
      let few = places.1 in
      let none = ap length (sym (kept_said number is default) ∙ places.0) in
      omega (arith, few, none)

  module _ (y : Restoration x) where
    pub settled_after : HasResolved x.port y.later x.s (then x y)
    settled_after = record {
      disk_before = x.was;
      was_ready = x.is_ready;
      server_after_handling = x.rest.server_after_done_answers;
      device_after_handling = x.one;
      error_handled = x.rest.error_handled;
      found = y.found;
      is_found_after_error = subst (λ (its : PortError). IsFoundAfterError (wanted_of x.s.wanted x.port.0) x.port its x.was x.rest.error_handled.result.next x.one y.two y.found) (sym x.rest.port_error_is)
          (subst (λ (way : Next). IsFoundAfterError (wanted_of x.s.wanted x.port.0) x.port x.port_error x.was way x.one y.two y.found) (sym x.rest.next_is) y.is_found);
      mode = y.mode;
      mode_is = y.mode_is;
      slots = y.fresh;
      has_no_used_slot = record { usable_count_is_of_mode = y.usable; has_32_slots = y.as_many; all_slots_are_free = y.free };
      failed = x.failed;
      failed_request_is = subst (λ (n : PortSlots). IsFailedRequest n x.rest.error_handled.result.failed x.failed) (sym slots_mid) x.rest.failed_request_is;
      revalidation = y.revalidation;
      is_revalidation = subst (λ (its : PortError). IsRevalidation its x.was y.found y.revalidation) (sym x.rest.port_error_is) y.expects;
      book_and_loans_after = y.now;
      are_resolved = subst (λ (n : ServerState). AreResolved (disposition_of x.failed y.revalidation) (requests_of x.port n.book) y.later (book_and_loans n.book n.table (quarantined_at n.kept_loans x.port.0)) y.now) (sym x.rest.mid_server_has_parts) y.meets;
      server_is = (λ i. record (then x y) { slots = sym (set-set x.s.slots x.port.0 x.u y.fresh) i }) ∙ (λ i. put (sym x.rest.mid_server_has_parts i));
    }
      where
        put : ServerState → ServerState
        put n = record n {
          device = y.two;
          table = y.now.table;
          probe_results = set n.probe_results x.port.0 y.found;
          remembered = set n.remembered x.port.0 (Some x.was);
          modes = set n.modes x.port.0 y.mode;
          slots = set n.slots x.port.0 y.fresh;
          kept_loans = set n.kept_loans x.port.0 y.now.kept;
          book = y.now.book;
        }

        slots_mid : slots_at x.rest.server_after_done_answers.slots x.port.0 ≡ x.u
        slots_mid = ap (λ (n : ServerState). slots_at n.slots x.port.0) x.rest.mid_server_has_parts ∙ get_or-set_same x.s.slots x.port.0 x.u no_slots (let f = x.sees.in_call_invariant.slots_are_of_four_ports in let l = low in omega (arith, f, l))

    pub then_kept : InCallInvariant (then x y)
    unfolding settled_after
    then_kept = x.laws.settled x.s (then x y) x.port y.later x.sees.in_call_invariant x.sees.ready settled_after x.rest.is_simulated

    pub lends_found : HasPortToIssue (then x y) y.two y.now.book y.fresh x.port y.mode y.found
    lends_found = record {
      in_call_invariant = then_kept;
      probe_result_is = get_or-set_same x.s.probe_results x.port.0 y.found Unserved in_list;
      device_is = refl;
      book_is = refl;
      slots_are = get_or-set_same x.s.slots x.port.0 y.fresh no_slots (let f = x.sees.in_call_invariant.slots_are_of_four_ports in let l = low in omega (arith, f, l));
      mode_is = get_or-set_same x.s.modes x.port.0 y.mode plain_mode (let f = x.sees.in_call_invariant.modes_are_of_four_ports in let l = low in omega (arith, f, l));
    }
      where
        in_list : x.port.0 < length x.s.probe_results
        in_list = ⊎_elim
            (λ (small : x.port.0 < length x.s.probe_results). small)
            (λ (past : length x.s.probe_results ≤ x.port.0). let z : Unserved ≡ Ready x.was = sym (get_or_past x.s.probe_results x.port.0 Unserved past) ∙ x.is_ready in absurd cc)
            (cases_lt x.port.0 (length x.s.probe_results))

    -- what is due was issued, and the replies stand in order
    module _ (o : Ordered x y) where
      told_all : o.all ≡ x.before ++ (map done_reply x.rest.error_handled.requests ++ y.later)
      told_all = o.all_is ∙ ap (λ (list : List Reply). list ++ y.later) x.rest.replies_are ∙ append_assoc x.before (map done_reply x.rest.error_handled.requests) y.later

      pub replies_are : o.after ≡ x.before ++ o.its
      replies_are = o.sorted ∙ ap (λ (list : List Reply). take (length x.before) list ++ o.its) told_all ∙ ap (λ (list : List Reply). list ++ o.its) (take-append_seam x.before (map done_reply x.rest.error_handled.requests ++ y.later))

      pub as_many_replies : length o.after ≡ length o.all
      as_many_replies =
          let a = ap length replies_are ∙ length-append x.before o.its in
          let n = ap length (ap (drop (length x.before)) told_all ∙ drop-append_seam x.before (map done_reply x.rest.error_handled.requests ++ y.later)) in
          let p = length_permutation o.its (drop (length x.before) o.all) o.moved in
          let w = ap length told_all ∙ length-append x.before (map done_reply x.rest.error_handled.requests ++ y.later) in
          omega (arith, a, n, p, w)

      pub recovers_port : HandlesPortError x.port o.its x.s (with_port_slots (then x y) o.three o.book o.slots x.port)
      unfolding settled_after
      recovers_port = record {
        later_replies = y.later;
        server_after_resolving = then x y;
        has_resolved = settled_after;
        issued = o.issues;
        replies_are = subst (IsPermutation o.its) (ap (drop (length x.before)) told_all ∙ drop-append_seam x.before (map done_reply x.rest.error_handled.requests ++ y.later)) o.moved;
        ordered = o.ordered;
      }

      -- it goes on, whatever the trouble was
      goes_on : (its_trouble : PortError) → x.rest.error_handled.port_error ≡ its_trouble → InvariantWithNoneDue (with_port_slots (then x y) o.three o.book o.slots x.port)
      unfolding settled_after recovers_port
      goes_on TaskFileError is = (x.laws.error_handled x.s (with_port_slots (then x y) o.three o.book o.slots x.port) x.port o.its o.settled x.sees.ready recovers_port (λ hung. let z : TaskFileError ≡ TimedOut = sym is ∙ hung in cc) x.rest.is_simulated).1
      goes_on FatalError is = (x.laws.error_handled x.s (with_port_slots (then x y) o.three o.book o.slots x.port) x.port o.its o.settled x.sees.ready recovers_port (λ hung. let z : FatalError ≡ TimedOut = sym is ∙ hung in cc) x.rest.is_simulated).1
      goes_on LinkChanged is = (x.laws.error_handled x.s (with_port_slots (then x y) o.three o.book o.slots x.port) x.port o.its o.settled x.sees.ready recovers_port (λ hung. let z : LinkChanged ≡ TimedOut = sym is ∙ hung in cc) x.rest.is_simulated).1
      goes_on TimedOut is = (x.laws.restarted x.s (with_port_slots (then x y) o.three o.book o.slots x.port) x.port o.its o.settled x.sees.ready recovers_port is).1

      pub error_handled : HandlesPortErrorOf x.port x.port_error o.its x.s (with_port_slots (then x y) o.three o.book o.slots x.port) × InvariantWithNoneDue (with_port_slots (then x y) o.three o.book o.slots x.port)
      unfolding settled_after recovers_port
      error_handled = (record { handling = recovers_port; port_error_is = x.rest.port_error_is; is_simulated = x.rest.is_simulated }, goes_on x.port_error x.rest.port_error_is)
