-- What is done on a port in trouble is answered, and the port is mended: what is asked of the calls, and what came of them.
use Rattle.std.proofs.Common.{ℕ, Bool, true, false, ◌≡◌, ◌<◌, ◌↔◌, List, length, Option, Some, None, refl, sym, ap, ◌∙◌, subst, arith}
use Rattle.std.specs.Int.{bit_at}
use Rattle.std.proofs.lemmas.Bool.{false≢true}
use Rattle.ata_types.specs.declared.Port.{Port}
use Rattle.ata_types.specs.declared.PortState.TheVariants.{Ready as ReadyState}
use Rattle.ata_types.specs.declared.request.Reply.{Reply}
use Rattle.hba_regs.specs.Bits.{bit}
use Rattle.adapter.specs.Access.{Access}
use Rattle.adapter.specs.Device.{Device}
use Rattle.adapter.specs.Rules.{HasPort}
use Rattle.refinement.specs.Fragments.{SomeMachineAgreesWith, AnySlotStates, IsSimulated}
use Rattle.adapter.specs.OneCommand.{SlotHasNoCommand}
use Rattle.dma_frames.specs.FrameTables.{OwnersAndLoans}
use Rattle.ata_types.specs.declared.Slot.{Slot}
use Rattle.error_recovery.specs.Recovery.{PlainUsesSlot0, PlainIsSlot0, PortMayRecover, RecoversOrStops, BacksFailure}
use Rattle.error_recovery.specs.declared.Recovered.{Recovered}
use Rattle.host_boot.specs.TakeOver.{probe_result_of}
use Rattle.ncq.specs.Masks.{ReadsDone}
use Rattle.port_control.specs.PortEvents.{IsPxisSstsOrOwnIsAccess, TakesEvent}
use Rattle.port_control.specs.declared.events.PortEvent.TheVariants.{TaskFileError}
use Rattle.request_queue.specs.BookEntries.{BookEntry}
use Rattle.request_queue.specs.declared.disposition.FailedRequest.{FailedRequest}
use Rattle.server_history.specs.ErrorHandling.{AreAllQueuedAs, IsFailedRequest, LookTellsErrorUnlessTimedOut, TellsRecoveryIfTaskFileErrorElseNamesNone}
use Rattle.server_history.specs.IssuingAndAnswering.{IsMaskOf, is_used}
use Rattle.server_history.specs.ServerState.{ServerState, InCallInvariant, slots_at, state_of, used_for}
use Rattle.port_control.specs.declared.events.PortError.{PortError}
use Rattle.port_control.specs.declared.events.PortError.TheVariants.{TaskFileError}
use Rattle.slots.specs.SlotUses.{PortSlots, IsTaken, use_at}
use Rattle.slots.specs.declared.SlotUse.{SlotUse}
use Rattle.port_driver.specs.LentSlots.{AnswersDoneSlots, HasPortToAnswer, with_answers}
use Rattle.port_driver.specs.Recovery.{AnswersDoneAndHandlesError, IsInError}
use Rattle.port_driver.specs.declared.served_port.ServedPort.{ServedPort}
use Rattle.port_driver.specs.declared.served_port.Shared.{Shared}
use Rattle.port_driver.proofs.Serving.{mask_of}
use Rattle.port_driver.proofs.Sending.{ready_there}

-- what laws say of a server of which a port failed
pub record FailureLaws : Type 0 where
  pub looking : (s : ServerState) (new : Device) (port : Port) → InCallInvariant s → state_of (probe_result_of s.probe_results port.0) ≡ ReadyState → IsSimulated (IsPxisSstsOrOwnIsAccess port) AnySlotStates s.device new → InCallInvariant (record s { device = new })
  pub finding : (s : ServerState) (new : Device) (port : Port) (mask done : ℕ) → InCallInvariant s → state_of (probe_result_of s.probe_results port.0) ≡ ReadyState → ReadsDone port mask done s.device new → InCallInvariant (record s { device = new })
  pub over : (s : ServerState) (new : Device) (port : Port) (mask done slot : ℕ) → InCallInvariant s → state_of (probe_result_of s.probe_results port.0) ≡ ReadyState → IsMaskOf (slots_at s.slots port.0) mask → slot < 32
      → ReadsDone port mask done s.device new → bit done slot ≡ true → SlotHasNoCommand (new.port port.0) slot
  pub may : (s : ServerState) (seen found : Device) (port : Port) (mask done : ℕ) → InCallInvariant s → state_of (probe_result_of s.probe_results port.0) ≡ ReadyState → TakesEvent port TaskFileError s.device seen
      → IsSimulated (IsPxisSstsOrOwnIsAccess port) AnySlotStates s.device seen → ReadsDone port mask done seen found → PortMayRecover port.0 found
  pub agreed : (s : ServerState) (port : Port) (queued : Bool) → InCallInvariant s → state_of (probe_result_of s.probe_results port.0) ≡ ReadyState → AreAllQueuedAs queued (slots_at s.slots port.0) → SomeMachineAgreesWith (PlainUsesSlot0 queued port.0) s.device
  pub alike : (s : ServerState) (port : Port) (slot : ℕ) (used : SlotUse) → InCallInvariant s → used_for s.slots port.0 slot ≡ Some used → AreAllQueuedAs used.queued (slots_at s.slots port.0)
  pub alone : (s : ServerState) (port : Port) (queued : Bool) (outstanding : ℕ) → InCallInvariant s → IsMaskOf (slots_at s.slots port.0) outstanding → AreAllQueuedAs queued (slots_at s.slots port.0) → PlainIsSlot0 queued outstanding

-- a slot that is used is used for something
its_use : (o : Option SlotUse) → is_used o ≡ true → (used : SlotUse) × (o ≡ Some used)
its_use None is = absurd (false≢true is)
its_use (Some used) is = (used, refl)

-- whoever is named had its bit among those that were outstanding
named_among : (queued : Bool) (port : Port) (outstanding : ℕ) (accesses : List Access) (old new : Device) (its : Slot × ℕ × ℕ) → BacksFailure queued port outstanding accesses old new (Some its)
    → (its.0.0 < 32) × (bit outstanding its.0.0 ≡ true)
named_among false port outstanding accesses old new its rests =
    (subst (λ (n : ℕ). n < 32) (sym rests.slot_is) (omega arith), subst (λ (n : ℕ). bit outstanding n ≡ true) (sym rests.slot_is) rests.is_outstanding)
named_among true port outstanding accesses old new its rests = (rests.slot_in_range, rests.is_outstanding)

-- a port in trouble, and what is lent of its server
pub record Troubled : Type 0 where
  pub laws : FailureLaws
  pub s : ServerState
  pub device : Device
  pub shared : Shared
  pub port : Port
  pub p : ServedPort
  pub port_error : PortError
  pub lends : IsInError s device shared port p port_error

-- what was found done of it
pub record FoundDone (x : Troubled) : Type 0 where
  pub mask : ℕ
  pub exact : (slot : ℕ) → slot < 32 → (bit_at mask slot ≡ 1) ↔ IsTaken x.p.slots slot
  pub done : ℕ
  pub found : Device
  pub reads : ReadsDone x.port mask done x.device found

abbrev from : (x : Troubled) → FoundDone x → ServerState
from x f = record x.s { device = f.found }

-- what was answered then
pub record Answered (x : Troubled) (f : FoundDone x) : Type 0 where
  pub before : List Reply
  pub after : List Reply
  pub t : OwnersAndLoans
  pub b : List BookEntry
  pub u : PortSlots
  pub answers : AnswersDoneSlots x.port f.done before after (from x f) (with_answers (from x f) t b u x.port)
  pub lent : HasPortToAnswer (with_answers (from x f) t b u x.port) t b u x.port f.done

abbrev mid : (x : Troubled) (f : FoundDone x) → Answered x f → ServerState
mid x f a = with_answers (from x f) a.t a.b a.u x.port

-- which commands are outstanding
pub record Waiting (x : Troubled) (f : FoundDone x) (a : Answered x f) : Type 0 where
  pub outstanding : ℕ
  pub left : (slot : ℕ) → slot < 32 → (bit_at outstanding slot ≡ 1) ↔ IsTaken a.u slot
  pub queued : Bool
  pub kinds : AreAllQueuedAs queued a.u

module _ (x : Troubled) where
  abbrev seen : ServerState
  seen = record x.s { device = x.device }

  pub seen_kept : InCallInvariant seen
  seen_kept = x.laws.looking x.s x.device x.port x.lends.sees_port_error.in_call_invariant x.lends.sees_port_error.ready x.lends.sees_port_error.is_simulated

  pub seen_there : HasPort x.device x.port.0
  seen_there = ready_there seen x.port seen_kept x.lends.sees_port_error.ready

  module _ (f : FoundDone x) where
    its_mask : IsMaskOf (slots_at x.s.slots x.port.0) f.mask
    its_mask = subst (λ (u : PortSlots). IsMaskOf u f.mask) (sym x.lends.had_none_due_and_parts.has_port_and_shared.port_is.slots_are) (mask_of x.p.slots f.mask f.exact)

    pub lends_done : HasPortToAnswer (from x f) x.shared.table.value x.shared.book x.p.slots x.port f.done
    lends_done = record {
      in_call_invariant = x.laws.finding seen f.found x.port f.mask f.done seen_kept x.lends.sees_port_error.ready f.reads;
      ready = x.lends.sees_port_error.ready;
      table_is = x.lends.had_none_due_and_parts.has_port_and_shared.table_is;
      book_is = x.lends.had_none_due_and_parts.has_port_and_shared.book_is;
      slots_are = x.lends.had_none_due_and_parts.has_port_and_shared.port_is.slots_are;
      over = λ slot small its. x.laws.over seen f.found x.port f.mask f.done slot seen_kept x.lends.sees_port_error.ready its_mask small f.reads its;
    }

    pub may : x.port_error ≡ TaskFileError → PortMayRecover x.port.0 f.found
    may fails = x.laws.may x.s x.device f.found x.port f.mask f.done x.lends.sees_port_error.in_call_invariant x.lends.sees_port_error.ready (subst (λ (its : PortError). LookTellsErrorUnlessTimedOut x.port its x.s.device x.device) fails x.lends.sees_port_error.error_is_found) x.lends.sees_port_error.is_simulated f.reads

    module _ (a : Answered x f) where
      pub mid_kept : InCallInvariant (mid x f a)
      mid_kept = a.lent.in_call_invariant

      pub mid_there : HasPort f.found x.port.0
      mid_there = ready_there (mid x f a) x.port a.lent.in_call_invariant a.lent.ready

      pub alike : (slot : ℕ) (used : SlotUse) → use_at a.u slot ≡ Some used → AreAllQueuedAs used.queued a.u
      alike slot used taken = subst (AreAllQueuedAs used.queued) a.lent.slots_are (x.laws.alike (mid x f a) x.port slot used a.lent.in_call_invariant (ap (λ (p : PortSlots). use_at p slot) a.lent.slots_are ∙ taken))

      pub places : length a.u.slot_uses ≡ 32
      places = ap (λ (p : PortSlots). length p.slot_uses) (sym a.lent.slots_are) ∙ (a.lent.in_call_invariant.slots_invariant x.port.0 mid_there.0).has_32_slots

      module _ (w : Waiting x f a) where
        mid_mask : IsMaskOf (slots_at (mid x f a).slots x.port.0) w.outstanding
        mid_mask = subst (λ (p : PortSlots). IsMaskOf p w.outstanding) (sym a.lent.slots_are) (mask_of a.u w.outstanding w.left)

        mid_kinds : AreAllQueuedAs w.queued (slots_at (mid x f a).slots x.port.0)
        mid_kinds = subst (AreAllQueuedAs w.queued) (sym a.lent.slots_are) w.kinds

        pub agreed : SomeMachineAgreesWith (PlainUsesSlot0 w.queued x.port.0) f.found
        agreed = x.laws.agreed (mid x f a) x.port w.queued a.lent.in_call_invariant a.lent.ready mid_kinds

        pub alone : PlainIsSlot0 w.queued w.outstanding
        alone = x.laws.alone (mid x f a) x.port w.queued w.outstanding a.lent.in_call_invariant mid_mask mid_kinds

        module _ (result : Recovered) (new : Device) (its_end : (m : RecoversOrStops x.port w.outstanding w.queued result f.found new) × TellsRecoveryIfTaskFileErrorElseNamesNone x.port_error x.port w.outstanding w.queued result m.accesses f.found new) where
          abbrev handling : RecoversOrStops x.port w.outstanding w.queued result f.found new
          handling = its_end.0

          pub named : (its : Slot × ℕ × ℕ) → result.failed ≡ Some its → (used : SlotUse) × (use_at a.u its.0.0 ≡ Some used)
          named its is =
              let among = named_among w.queued x.port w.outstanding handling.accesses f.found new its (subst (BacksFailure w.queued x.port w.outstanding handling.accesses f.found new) is handling.tells.failure_is_backed) in
              its_use (use_at a.u its.0.0) (sym (mask_of a.u w.outstanding w.left its.0.0 among.0) ∙ among.1)

          pub mends_rest : (failed : Option FailedRequest) → IsFailedRequest a.u result.failed failed → AnswersDoneAndHandlesError x.port x.port_error a.before a.after failed result.next x.s a.t a.b a.u new
          mends_rest failed names = record {
            server_after_done_answers = mid x f a;
            in_call_invariant = a.lent.in_call_invariant;
            error_handled = record {
              port_error = x.port_error;
              device_after_look = x.device;
              error_is_found = x.lends.sees_port_error.error_is_found;
              mask = f.mask;
              is_mask_of = its_mask;
              done = f.done;
              device_after_read = f.found;
              reads_done = f.reads;
              requests = a.answers.requests;
              ordered = a.answers.ordered;
              answers_each = a.answers.answers_each;
              done_slots_are_free = a.answers.done_slots_are_free;
              outstanding = w.outstanding;
              outstanding_is_mask = mid_mask;
              queued = w.queued;
              are_queued_alike = mid_kinds;
              result = result;
              recovers_or_stops = its_end.0;
              tells_error_handling = its_end.1;
            };
            port_error_is = refl;
            is_simulated = x.lends.sees_port_error.is_simulated;
            mid_server_has_parts = refl;
            next_is = refl;
            failed_request_is = names;
            replies_are = a.answers.replies_are_appended;
          }
