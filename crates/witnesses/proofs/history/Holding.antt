-- What holds between two calls, of ports of these devices; and the evidence of ports that aren't named.
use Rattle.refinement.specs.PreservedParts.{IsPlugEvent}
use Rattle.refinement.specs.Errors.{IsFatalEntryOf}
use Rattle.std.proofs.lemmas.List.Elements.{All-contains, Contains-append_right}
use Rattle.std.proofs.lemmas.List.{append_cancel_left}
use Rattle.std.proofs.Common.{ℕ, zero, suc, ◌≡◌, ◌≢◌, ◌≤◌, ◌∙◌, ◌++◌, true, false, List, [], ◌∷◌, length, None, inl, inr, ⊎_elim, refl, sym, ap, subst, arith}
use Rattle.std.proofs.lemmas.Bool.{true≢false}
use Rattle.std.specs.List.{Contains, All}
use Rattle.ata_types.specs.declared.Port.{Port}
use Rattle.ata_types.specs.declared.PortState.TheVariants.{Absent, Foreign, Ready, Unfit}
use Rattle.ata_types.specs.declared.request.RequestId.{RequestId}
use Rattle.ata_types.specs.declared.limits.TheConstants.{MOST_READINGS}
use Rattle.adapter.specs.Access.{Access, named_causes_mask}
use Rattle.adapter.specs.Device.{DevicePort, Device}
use Rattle.adapter.specs.Device.Halt.{NotHalted, HaltedByPlain, HaltedByQueued}
use Rattle.adapter.specs.FirstRead.{empty_port}
use Rattle.adapter.specs.Idle.{IsIdlePort}
use Rattle.adapter.specs.declared.access.DeviceStep.{DeviceStep}
use Rattle.adapter.specs.declared.command.Operation.TheVariants.{Identify}
use Rattle.adapter.specs.declared.tape.Entry.{Entry}
use Rattle.refinement.specs.Acts.{DriverSlots}
use Rattle.refinement.specs.Relation.{port_at}
use Rattle.refinement.specs.PortFacts.{IsHaltedByPlainOrQueued, IsFaultOf}
use Rattle.refinement.specs.Slots.{Free, Serves, SlotStates, IsMove}
use Rattle.refinement.specs.ReadWitness.{first_id}
use Rattle.block_machine.specs.Events.{AbstractCall, AbstractCallResult}
use Rattle.block_machine.specs.Histories.{JointState}
use Rattle.block_machine.specs.Ports.{Ports, Evidence}
use Rattle.block_machine.specs.State.{Pending}
use Rattle.block_machine.specs.Steps.{NoneKept}
use Rattle.block_machine.specs.declared.due.QueueMode.{QueueMode}
use Rattle.port_boot.specs.States.{HasFitDiskAndInterrupts}
use Rattle.port_control.specs.Ports.{programmed_bases}
use Rattle.error_recovery.specs.Evidence.{GainsSinceStart}
use Rattle.driver_history.specs.Evidence.{IsEvidencedOf, ShowsFailure, ShowedLinkChangeOrNoDeviceAndNoneCame, TapeGainsEntry}
use Rattle.driver_history.specs.Histories.{IsForeignOrUnfit, ProbesDisk, LosesNoPortError}
use Rattle.driver_history.specs.PortInvariants.{HasAllSlotsFreeAndNoneParked, ReadySlotsInvariant, IsFreeOrServes, SlotCommandIsQueuedUnlessPlain, IsUnservedAt, HasNoUnanswered, EngineRuns}
use Rattle.driver_history.specs.AccessTrace.{WritesNeitherCmdNorSctl}
use Rattle.witnesses.specs.RunningAdapter.{page_entry, page_move}
use Rattle.witnesses.proofs.history.Pages.{Kind}
use Rattle.witnesses.proofs.history.Members.{only}

-- ---- slots

-- no slot is in use
abbrev pub no_slots : DriverSlots
no_slots = record { slot_states = λ port slot. Free; awaiting_disposition = λ port. [] }

-- slot 0 of port 0 serves request 1
abbrev pub uses_first : SlotStates
uses_first zero zero = Serves first_id
uses_first zero (suc slot) = Free
uses_first (suc port) slot = Free

abbrev pub first_slots : DriverSlots
first_slots = record { slot_states = uses_first; awaiting_disposition = λ port. [] }

-- no other does
pub answers_first_only : (port slot : ℕ) (id : RequestId) → uses_first port slot ≡ Serves id → (port ≡ 0) × (slot ≡ 0)
answers_first_only zero zero id is = (refl, refl)
answers_first_only zero (suc slot) id is = absurd (let x : Free ≡ Serves id = is in cc)
answers_first_only (suc port) slot id is = absurd (let x : Free ≡ Serves id = is in cc)

-- ---- ports

pub unserved_at : (s : DriverSlots) (i : JointState Device) (port : ℕ) → i.abstract.ports.state (port_at port) ≡ Absent → i.device.port port ≡ empty_port → HasAllSlotsFreeAndNoneParked s port → HasNoUnanswered i.abstract.machine (port_at port)
    → NoneKept i.abstract.machine (port_at port) → IsUnservedAt s i (port_at port)
unserved_at s i port absent quiet slots waits kept = record {
  state_is_absent = absent;
  port_is_idle = subst IsIdlePort (sym quiet) (record { st_is_clear = refl; cr_is_clear = refl; fre_is_clear = refl; fr_is_clear = refl; ci_is_clear = λ s. refl; sact_is_clear = λ s. refl; none_is_taken = λ s. refl });
  has_nothing_in_slots = slots;
  has_no_unanswered = waits;
  none_is_quarantined = kept;
}

-- nothing has halted it
unfaulted : IsHaltedByPlainOrQueued NotHalted → ⊥
unfaulted f = ⊎_elim (λ a. let x : NotHalted ≡ HaltedByPlain = a in cc) (λ a. let x : NotHalted ≡ HaltedByQueued = a in cc) f

-- a port runs on which no fault is on record
pub runs_on : (port : ℕ) (d : Device) → (d.port port).st ≡ true → (d.port port).cr ≡ true → (d.port port).fre ≡ true → (d.port port).bases ≡ programmed_bases port → (d.port port).notes.link_wait_count ≡ MOST_READINGS
    → (d.port port).notes.st_set_at ≤ length d.tape → (d.port port).link_due ≡ false → (d.port port).is 30 ≡ false → (d.port port).halt ≡ NotHalted → EngineRuns port d
runs_on port d st cr fre bases saw known linked calm whole = record {
  st_is_set = st;
  cr_is_set = cr;
  fre_is_set = fre;
  bases_are_programmed = bases;
  device_was_seen = saw;
  faults_are_recorded = record { st_set_is_on_tape = known; no_link_is_due = linked; tfes_tells_fault = λ f. absurd (true≢false (sym f ∙ calm)); shows_last_fault = λ f. absurd (unfaulted (subst IsHaltedByPlainOrQueued whole f)) };
}

-- the last page of its disk stands on the tape
pub fit_disk : (disk : Kind) (port : ℕ) (d : Device) (before later : List Entry) → d.tape ≡ before ++ page_entry disk.page port ∷ later → (d.port port).sctl_det ≡ 0 → (d.port port).ie ≡ named_causes_mask
    → (d.port port).notes.sctl_written_at ≡ 0 → All (λ e. IsMove port Identify e → ⊥) later → HasFitDiskAndInterrupts None port d disk.info
fit_disk disk port d before later is det ie since last = record {
  no_comreset = det;
  ie_is_named = ie;
  last_identify_page = disk.page;
  page_is_last = record {
    before = before;
    move = page_move disk.page port;
    later = later;
    tape_is = is;
    came_after_sctl = omega (arith, since);
    is_move = (refl, refl);
    no_later_page = last;
    bytes_are = refl;
  };
  disk_is_fit = disk.fits;
}

-- nothing is in its slots
pub requests_none : (s : DriverSlots) (i : JointState Device) (port : Port) (mode : QueueMode) → ((slot : ℕ) → s.slot_states port.0 slot ≡ Free) → s.awaiting_disposition port.0 ≡ [] → ReadySlotsInvariant s i port mode
requests_none s i port mode free unparked = record {
  slots_serve_clients = λ slot. inl (free slot);
  unusable_are_free = λ slot above. free slot;
  none_is_parked = unparked;
  unended_commands_are_queued_as_asked = λ slot e in_slot. absurd (unserved slot e.request.id in_slot.serves);
  plain_is_alone = λ slot e in_slot. absurd (unserved slot e.request.id in_slot.serves);
}
  where
    unserved : (slot : ℕ) (id : RequestId) → s.slot_states port.0 slot ≡ Serves id → ⊥
    unserved slot id is = let z : Free ≡ Serves id = sym (free slot) ∙ is in cc

-- slot 0 of port 0 serves the one request, by a command of its kind
pub requests_first : (i : JointState Device) (mode : QueueMode) → 1 ≤ mode.usable_slots → ((e : Pending) → Contains i.abstract.machine.book e → SlotCommandIsQueuedUnlessPlain mode i.device 0 0 e) → ReadySlotsInvariant first_slots i (port_at 0) mode
requests_first i mode usable kind = record {
  slots_serve_clients = clients;
  unusable_are_free = λ slot above. low slot (omega (arith, usable, above));
  none_is_parked = refl;
  unended_commands_are_queued_as_asked = λ slot e s unended. kinds slot e s.is_in_book s.serves;
  plain_is_alone = λ slot e s plain. alone slot e s.serves;
}
  where
    clients : (slot : ℕ) → IsFreeOrServes (uses_first 0 slot)
    clients zero = inr (first_id, refl)
    clients (suc slot) = inl refl

    low : (slot : ℕ) → 1 ≤ slot → uses_first 0 slot ≡ Free
    low zero above = absurd (omega (arith, above))
    low (suc slot) above = refl

    kinds : (slot : ℕ) (e : Pending) → Contains i.abstract.machine.book e → uses_first 0 slot ≡ Serves e.request.id → SlotCommandIsQueuedUnlessPlain mode i.device 0 slot e
    kinds zero e here u = kind e here
    kinds (suc slot) e here u = absurd (let z : Free ≡ Serves e.request.id = u in cc)

    alone : (slot : ℕ) (e : Pending) → uses_first 0 slot ≡ Serves e.request.id → (slot ≡ 0) × ((other : ℕ) → other ≢ 0 → uses_first 0 other ≡ Free)
    alone zero e u = (refl, λ other ne. low other (omega (arith, ne)))
    alone (suc slot) e u = absurd (let z : Free ≡ Serves e.request.id = u in cc)

-- what is issued or kept is a request of slot 0 of port 0
pub have_first : (e : Pending) (q : ℕ) → e.request.port.0 ≡ 0 → e.request.id ≡ first_id → e.request.port.0 ≡ q → (slot : ℕ) × (uses_first q slot ≡ Serves e.request.id)
have_first e q zero_is id_is at_port = (0, subst (λ (n : ℕ). uses_first n 0 ≡ Serves e.request.id) (sym zero_is ∙ at_port) (ap Serves (sym id_is)))

-- ---- what is named

-- a port is named alone
pub named : (port : ℕ) → Contains (port_at port ∷ []) (port_at port)
named port = (0, omega arith, refl)

pub named_is : (port n : ℕ) → Contains (port_at port ∷ []) (port_at n) → n ≡ port
named_is port n here = ap (λ (p : Port). p.0) (only (port_at port) (port_at n) here)

-- the evidence names the port nowhere
pub record IsUnnamed (evidence : Evidence) (port : Port) : Type 0 where
  pub lost : Contains evidence.lost port → ⊥
  pub gone : Contains evidence.link_changed port → ⊥
  pub failed : Contains evidence.showing_error port → ⊥
  pub fatal : Contains evidence.showing_fatal_error port → ⊥
  pub stopped : Contains evidence.stopped port → ⊥
  pub stuck : Contains evidence.stuck port → ⊥

-- a port that shows its device, and no change
pub unlost : (port : Port) (old new : Device) → (old.port port.0).serr_n ≡ false → (old.port port.0).serr_x ≡ false → (old.port port.0).ssts_det ≡ 3 → ShowedLinkChangeOrNoDeviceAndNoneCame port old new → ⊥
unlost port old new n x there loss = ⊎_elim (λ change. ⊎_elim (λ a. absurd (true≢false (sym a ∙ n))) (λ a. absurd (true≢false (sym a ∙ x))) change) (λ missing. missing.0 there) loss

-- and one with no bit of PxIS that tells of trouble
pub unfailing : (p : DevicePort) → ((place : ℕ) → 27 ≤ place → p.is place ≡ false) → ShowsFailure p → ⊥
unfailing p calm fails = ⊎_elim (λ fatal. absurd (true≢false (sym fatal.cause_is_set ∙ calm fatal.place fatal.from))) (λ fault. absurd (true≢false (sym fault ∙ calm 30 (omega arith)))) fails

-- a port that isn't named, wasn't stopped, and showed no trouble if it was ready
pub unnamed_evidenced : (ask : AbstractCall DeviceStep) (said : AbstractCallResult) (accesses : List Access) (old : JointState Device) (ports : Ports) (new : Device) (evidence : Evidence) (port : Port) → IsUnnamed evidence port
    → (old.abstract.ports.state port ≡ Ready → (ShowedLinkChangeOrNoDeviceAndNoneCame port old.device new → ⊥) × (ShowsFailure (old.device.port port.0) → ⊥)) → All (WritesNeitherCmdNorSctl port) accesses
    → IsEvidencedOf ask said accesses old ports new evidence port
unnamed_evidenced ask said accesses old ports new evidence port un calm left = record {
  named_lost_showed_loss_or_changed = λ h. absurd (un.lost h);
  shown_loss_of_ready_is_named = λ is loss. absurd ((calm is).0 loss);
  named_link_changed_had_change_or_no_device = λ h. absurd (un.gone h);
  shown_failure_of_ready_is_named = λ is f. absurd ((calm is).1 f);
  named_showing_error_had_error = λ h. absurd (un.failed h);
  shown_fatal_of_ready_is_named = λ is f. absurd ((calm is).1 (inl f));
  named_showing_fatal_had_fatal = λ h. absurd (un.fatal h);
  engine_is_left_or_stopped = inl left;
  named_stopped_was_stopped_or_reset = λ h. absurd (un.stopped h);
  stuck_only = λ h. absurd (un.stuck h);
}

-- ---- disks that are there

-- a ready port isn't tried
pub tries_ready : (accesses : List Access) (old : JointState Device) (ports : Ports) (new : Device) (port : Port) → old.abstract.ports.state port ≡ Ready → ProbesDisk accesses old ports new port
tries_ready accesses old ports new port ready = record {
  absent_with_device_is_booted_dead_or_has_plug_event = λ is. absurd (not_absent is);
  absent_gets_first_fis_or_dead_or_no_device = λ is. absurd (not_absent is);
  missing_disk_makes_absent_or_dead = λ bad. absurd (not_bad bad);
  changed_disk_is_booted_or_absent_or_dead = λ bad. absurd (not_bad bad);
}
  where
    not_absent : old.abstract.ports.state port ≡ Absent → ⊥
    not_absent is = let x : Ready ≡ Absent = sym ready ∙ is in cc

    not_bad : IsForeignOrUnfit old.abstract.ports port → ⊥
    not_bad (inl is) = let x : Ready ≡ Foreign = sym ready ∙ is in cc
    not_bad (inr is) = let x : Ready ≡ Unfit is.0 = sym ready ∙ is.1 in cc

-- ---- trouble

-- nothing of this kind was gained
pub gained_none : (Is : Entry → Type 0) (old new : Device) (gained : List Entry) → new.tape ≡ old.tape ++ gained → All (λ e. Is e → ⊥) gained → TapeGainsEntry Is old new → ⊥
gained_none Is old new gained is none g =
    let same : g.new_entries ≡ gained = append_cancel_left old.tape g.new_entries gained (sym g.tape_is ∙ is) in
    All-contains (λ e. Is e → ⊥) gained g.entry none (subst (λ (es : List Entry). Contains es g.entry) same g.entry_is_new) g.entry_is_of_kind

-- so it was not while ST was one either
pub ran_none : (Is : Entry → Type 0) (port : ℕ) (old new : Device) → (TapeGainsEntry Is old new → ⊥) → GainsSinceStart Is port old new → ⊥
ran_none Is port old new none g = none (record {
  new_entries = g.before ++ (g.entry ∷ g.later);
  tape_is = g.tape_grows;
  entry = g.entry;
  entry_is_new = Contains-append_right g.before (g.entry ∷ g.later) g.entry (0, omega arith, refl);
  entry_is_of_kind = g.is_of_kind;
})

-- neither a fault, nor a fatal error, nor a disk of the port that goes or comes
abbrev pub IsCalm : ℕ → Entry → Type 0
IsCalm port e = (IsFaultOf port e → ⊥) × (IsFatalEntryOf port e → ⊥) × (IsPlugEvent port e → ⊥)

pub each : {X : Type 0} {P Q : X → Type 0} (xs : List X) → ((x : X) → P x → Q x) → All P xs → All Q xs
each xs goes all k d low = goes _ (all k d low)

-- where a port showed no trouble, and none came, there is none to be heeded
pub no_trouble : (evidence : Evidence) (old : JointState Device) (ports : Ports) (new : Device) (port : Port) (gained : List Entry) → new.tape ≡ old.device.tape ++ gained → All (IsCalm port.0) gained
    → (old.abstract.ports.served port ≡ true → old.abstract.ports.state port ≡ Ready)
    → (old.abstract.ports.state port ≡ Ready → (ShowedLinkChangeOrNoDeviceAndNoneCame port old.device new → ⊥) × (ShowsFailure (old.device.port port.0) → ⊥)) → LosesNoPortError evidence old ports new port
no_trouble evidence old ports new port gained is none served calm = record {
  ready_errors_are_handled_or_shown = λ ready why. absurd (⊎_elim (calm ready).1 (λ came. ⊎_elim faults fatals came) why);
  changes_are_handled_or_shown_unless_dead = λ tends why. absurd (⊎_elim (λ change. (calm (served tends.0)).0 (inl change)) plugs why);
  ready_shows_fault_since_start = λ ready g. absurd (ran_none (IsFaultOf port.0) port.0 old.device new faults g);
  ready_shows_fatal_since_start = λ ready g. absurd (ran_none (IsFatalEntryOf port.0) port.0 old.device new fatals g);
  ready_shows_plug_event_since_start = λ ready g. absurd (ran_none (IsPlugEvent port.0) port.0 old.device new plugs g);
}
  where
    faults : TapeGainsEntry (IsFaultOf port.0) old.device new → ⊥
    faults = gained_none (IsFaultOf port.0) old.device new gained is (each gained (λ e (c : IsCalm port.0 e). c.0) none)

    fatals : TapeGainsEntry (IsFatalEntryOf port.0) old.device new → ⊥
    fatals = gained_none (IsFatalEntryOf port.0) old.device new gained is (each gained (λ e (c : IsCalm port.0 e). c.1) none)

    plugs : TapeGainsEntry (IsPlugEvent port.0) old.device new → ⊥
    plugs = gained_none (IsPlugEvent port.0) old.device new gained is (each gained (λ e (c : IsCalm port.0 e). c.2) none)
