-- What holds at the instant of a server that keeps what it keeps.
use Rattle.std.proofs.Common.{ℕ, ◌≡◌, ◌≢◌, ◌<◌, ◌≤◌, not, true, false, Option, Some, None, inl, inr, refl, sym, ap, ◌∙◌, subst, arith}
use Rattle.std.specs.Prelude.{◌↔◌}
use Rattle.std.specs.List.{Contains}
use Rattle.std.proofs.lemmas.Bool.{false≢true}
use Rattle.ata_types.specs.declared.Port.{Port}
use Rattle.ata_types.specs.declared.PortState.TheVariants.{Absent, Ready as ReadyState, Foreign, Unfit, Dead}
use Rattle.ata_types.specs.declared.request.Op.{Op}
use Rattle.adapter.specs.Device.{Device}
use Rattle.refinement.specs.Acts.{DriverSlots}
use Rattle.refinement.specs.PreservedParts.{HasDet3IfDiskPresent}
use Rattle.refinement.specs.Slots.{Free}
use Rattle.block_machine.specs.DueRequests.{is_plain}
use Rattle.block_machine.specs.declared.due.QueueMode.{QueueMode}
use Rattle.block_machine.specs.Histories.{JointState, IsReachable}
use Rattle.block_machine.specs.State.{Machine, Pending}
use Rattle.driver_history.specs.PortInvariants.{HasAllSlotsFreeAndNoneParked, ReadySlotsInvariant, PortStateInvariant, DriverInvariantWith, IsFreeOrServes, SlotCommandIsQueuedUnlessPlain, HasNoUnanswered, EngineRuns, SlotServesUnanswered}
use Rattle.host_boot.specs.TakeOver.{FoundUnusableDevice, IsWantedAndImplemented as IsServedPort, StillBacksProbeResult, probe_result_of, wanted_of}
use Rattle.host_boot.specs.declared.ProbeResult.{ProbeResult}
use Rattle.host_boot.specs.declared.ProbeResult.TheVariants.{Unserved, Ready, Unready}
use Rattle.identify.specs.declared.DiskInfo.{DiskInfo}
use Rattle.identify.specs.declared.wanted.Wanted.{Wanted}
use Rattle.request_queue.specs.BookEntries.{BookEntry}
use Rattle.request_queue.specs.BookRelation.{EntryRelation}
use Rattle.slots.specs.declared.SlotUse.{SlotUse}
use Rattle.server_history.specs.ServerState.{IsLoneSlot0, ServerState, InCallInvariant, MachineRelation, is_served, mode_at, probed_mode, mode_in, ports_of, last_disk_in, last_disk_of, remembered_at, last_sectors_of, last_serial_of, state_of, zeroes_after_trim_of, usable_slots_of, slot_state_of_use, used_for}
use Rattle.server_history.proofs.state.PortSlots.{free_unused, none_kept, not_dead, of_ready, ready_use, usable_ready, used_serves}
use Rattle.server_history.proofs.state.PairedLists.{at_right}

-- what is used for a client's request or for none
clients : (used : Option SlotUse) → IsFreeOrServes (slot_state_of_use used)
clients None = inl refl
clients (Some used) = inr (used.id, refl)

-- the port is served where it was found so
pub served_is : (wanted : Wanted) (found : ProbeResult) (port : ℕ) (d : Device) → StillBacksProbeResult wanted found port d → (is_served found ≡ true) ↔ IsServedPort wanted port d
served_is wanted Unserved port d s = ((λ yes. absurd (false≢true yes)), (λ served. absurd (s.0 served)))
served_is wanted (Ready info) port d s = ((λ yes. s.0), (λ served. refl))
served_is wanted (Unready state) port d s = ((λ yes. s.0), (λ served. refl))

module _ (s : ServerState) (k : InCallInvariant s) (m : Machine) (reached : IsReachable m) (is : MachineRelation s m) where
  abbrev pub slots : DriverSlots
  slots = record { slot_states = is.uses; awaiting_disposition = is.awaiting_disposition }

  abbrev pub instant : JointState Device
  instant = record { device = s.device; abstract = record { machine = m; ports = ports_of s } }

  none_waits : (port : Port) → state_of (probe_result_of s.probe_results port.0) ≢ ReadyState → HasNoUnanswered m port
  none_waits port other e here own =
      let a = at_right EntryRelation s.book m.book is.book e here in
      other (ap (λ (q : Port). state_of (probe_result_of s.probe_results q.0)) (sym own ∙ a.2.port) ∙ of_ready s k a.0 a.1)

  module _ (port : Port) (low : port.0 < 4) where
    -- it isn't dead
    alive : (f : ProbeResult) → probe_result_of s.probe_results port.0 ≡ f → f ≢ Unready Dead → probe_result_of s.probe_results port.0 ≢ Unready Dead
    alive f e other dead = other (sym e ∙ dead)

    -- a port that isn't ready uses no slot
    nothing : (f : ProbeResult) → probe_result_of s.probe_results port.0 ≡ f → usable_slots_of f (mode_at s.modes port.0) ≡ 0 → f ≢ Unready Dead → HasAllSlotsFreeAndNoneParked slots port.0
    nothing f e none other = record {
      all_are_free = λ slot.
          is.slot_states_agree_unless_dead port.0 slot (alive f e other)
          ∙ ap slot_state_of_use ((k.slots_invariant port.0 low).unusable_are_unused slot (subst (λ (n : ℕ). n ≤ slot) (sym (ap (λ (x : ProbeResult). usable_slots_of x (mode_at s.modes port.0)) e ∙ none)) (omega arith)));
      none_is_parked = is.only_dead_ports_park port.0 (alive f e other);
    }

    module _ (info : DiskInfo) (found : probe_result_of s.probe_results port.0 ≡ Ready info) where
      ready : state_of (probe_result_of s.probe_results port.0) ≡ ReadyState
      ready = ap state_of found

      disk_is : last_disk_in s port ≡ Some info
      disk_is = ap (λ (f : ProbeResult). last_disk_of f (remembered_at s.remembered port.0)) found

      abbrev mode : QueueMode
      mode = mode_in s port

      -- a slot that serves a request is used for it, and the request is in the book
      serving : (slot : ℕ) (e : Pending) → SlotServesUnanswered slots instant port slot e → (u : SlotUse) × (used_for s.slots port.0 slot ≡ Some u) × ((h : BookEntry) × Contains s.book h × EntryRelation h e × (h.request.id ≡ u.id))
      serving slot e serves =
          let u = used_serves s m port.0 is ready slot e.request.id serves.serves in
          let h = at_right EntryRelation s.book m.book is.book e serves.is_in_book in
          (u.0, u.1, (h.0, h.1, h.2, sym h.2.id ∙ sym u.2))

      -- whether a command is queued
      kind_is : (slot : ℕ) (e : Pending) → SlotServesUnanswered slots instant port slot e → (u : SlotUse) → used_for s.slots port.0 slot ≡ Some u → u.queued ≡ not (is_plain mode e.request.asked.op)
      kind_is slot e serves u used =
          let x = serving slot e serves in
          let same : Some x.0 ≡ Some u = sym x.1 ∙ used in
          let alike : x.0 ≡ u = cc in
          k.slots_queue_as_asked port slot u x.2.0 used x.2.1 (x.2.3 ∙ ap (λ (v : SlotUse). v.id) alike) ∙ ap (λ (o : Op). not (is_plain mode o)) (sym x.2.2.op)

      kind : (slot : ℕ) (e : Pending) → SlotServesUnanswered slots instant port slot e → e.ended ≡ false → SlotCommandIsQueuedUnlessPlain mode s.device port.0 slot e
      kind slot e serves unended =
          let x = serving slot e serves in
          let h = k.slots_store_commands port.0 slot x.0 x.1 in
          record { command = h.command; places = h.places; slot_decodes_to = h.stored.slot_decodes_to; is_queued_if_not_plain = h.is_queued_as_given ∙ kind_is slot e serves x.0 x.1 }

      -- a slot beyond the usable ones is free
      unused : (slot : ℕ) → mode.usable_slots ≤ slot → is.uses port.0 slot ≡ Free
      unused slot high = free_unused s m port.0 is ready slot ((k.slots_invariant port.0 low).unusable_are_unused slot (subst (λ (n : ℕ). n ≤ slot) (sym (usable_ready s port.0 k ready)) high))

      -- a plain one is alone
      alone : (slot : ℕ) (e : Pending) → SlotServesUnanswered slots instant port slot e → is_plain mode e.request.asked.op ≡ true → (slot ≡ 0) × ((other : ℕ) → other ≢ 0 → is.uses port.0 other ≡ Free)
      alone slot e serves plain = (a.0, λ other ne. free_unused s m port.0 is ready other (a.1 other ne))
        where
          x : (u : SlotUse) × (used_for s.slots port.0 slot ≡ Some u) × ((h : BookEntry) × Contains s.book h × EntryRelation h e × (h.request.id ≡ u.id))
          x = serving slot e serves

          a : IsLoneSlot0 s.slots port.0 slot
          a = k.plain_is_alone_in_slot_0 port.0 slot x.0 x.1 (kind_is slot e serves x.0 x.1 ∙ ap not plain)

      requests : ReadySlotsInvariant slots instant port mode
      requests = record {
        slots_serve_clients = λ slot. subst IsFreeOrServes (sym (ready_use s m port.0 is ready slot)) (clients (used_for s.slots port.0 slot));
        unusable_are_free = unused;
        none_is_parked = is.only_dead_ports_park port.0 (not_dead s port.0 ready);
        unended_commands_are_queued_as_asked = kind;
        plain_is_alone = alone;
      }

    shown_as : (f : ProbeResult) → probe_result_of s.probe_results port.0 ≡ f → FoundUnusableDevice (state_of f) → HasDet3IfDiskPresent (s.device.port port.0)
    shown_as f e bad = (k.port_invariant port.0 low).bad_disk_is_shown_if_in (subst (λ (x : ProbeResult). FoundUnusableDevice (state_of x)) (sym e) bad)

    of : (f : ProbeResult) → probe_result_of s.probe_results port.0 ≡ f → StillBacksProbeResult (wanted_of s.wanted port.0) f port.0 s.device → (state_of f ≡ ReadyState → EngineRuns port.0 s.device)
        → PortStateInvariant (wanted_of s.wanted port.0) slots instant port (is_served f) (state_of f)
    of Unserved e behind runs = record {
      state_is_absent = ap state_of e;
      port_is_idle = behind.1;
      has_nothing_in_slots = nothing Unserved e refl (λ x. cc);
      has_no_unanswered = none_waits port (λ ready. let z : Absent ≡ ReadyState = sym (ap state_of e) ∙ ready in absurd cc);
      none_is_quarantined = none_kept s m port is (alive Unserved e (λ x. cc));
    }
    of (Ready info) e behind runs = record {
      adapter_is_on = k.adapter_is_on;
      engine_runs = runs refl;
      info = info;
      has_fit_disk = behind.1;
      shows_disk_info = record { serial = ap last_serial_of (disk_is info e); sectors = ap last_sectors_of (disk_is info e); zeroes_after_trim_is = ap zeroes_after_trim_of e; mode = k.modes_are_probed port.0 low ∙ ap (probed_mode s.device.cap) e };
      slots_invariant = requests info e;
      none_is_quarantined = none_kept s m port is (alive (Ready info) e (λ x. cc));
    }
    of (Unready ReadyState) e behind runs = absurd behind.1
    of (Unready Absent) e behind runs = record {
      adapter_is_on = k.adapter_is_on;
      backs_state = behind.1;
      shows_disk_if_in = λ bad. absurd bad;
      has_nothing_in_slots = nothing (Unready Absent) e refl (λ x. cc);
      has_no_unanswered = none_waits port (λ ready. let z : Absent ≡ ReadyState = sym (ap state_of e) ∙ ready in absurd cc);
      none_is_quarantined = none_kept s m port is (alive (Unready Absent) e (λ x. cc));
    }
    of (Unready Foreign) e behind runs = record {
      adapter_is_on = k.adapter_is_on;
      backs_state = behind.1;
      shows_disk_if_in = λ bad. shown_as (Unready Foreign) e bad;
      has_nothing_in_slots = nothing (Unready Foreign) e refl (λ x. cc);
      has_no_unanswered = none_waits port (λ ready. let z : Foreign ≡ ReadyState = sym (ap state_of e) ∙ ready in absurd cc);
      none_is_quarantined = none_kept s m port is (alive (Unready Foreign) e (λ x. cc));
    }
    of (Unready (Unfit n)) e behind runs = record {
      adapter_is_on = k.adapter_is_on;
      backs_state = behind.1;
      shows_disk_if_in = λ bad. shown_as (Unready (Unfit n)) e bad;
      has_nothing_in_slots = nothing (Unready (Unfit n)) e refl (λ x. cc);
      has_no_unanswered = none_waits port (λ ready. let z : Unfit n ≡ ReadyState = sym (ap state_of e) ∙ ready in absurd cc);
      none_is_quarantined = none_kept s m port is (alive (Unready (Unfit n)) e (λ x. cc));
    }
    of (Unready Dead) e behind runs = record {
      is_backed_or_off = inl behind.1;
      has_no_unanswered = λ on. none_waits port (λ ready. let z : Dead ≡ ReadyState = sym (ap state_of e) ∙ ready in absurd cc);
    }

  pub holds_with : DriverInvariantWith s.wanted slots instant
  holds_with = record {
    driver_relation = is.driver_relation;
    served_iff_wanted_and_there = λ port low. served_is (wanted_of s.wanted port.0) (probe_result_of s.probe_results port.0) port.0 s.device (k.port_invariant port.0 low).probe_result_is_backed;
    is_on_or_served_are_dead = inl k.adapter_is_on;
    ports_hold = λ port low. let b = k.port_invariant port.0 low in of port low (probe_result_of s.probe_results port.0) refl b.probe_result_is_backed b.ready_engine_runs;
  }
