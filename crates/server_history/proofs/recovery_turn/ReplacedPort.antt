-- A server goes on where one port of it is found to be something else, and the others are left to the device.
use Rattle.std.proofs.Common.{ℕ, ◌≡◌, ◌≢◌, ◌<◌, ◌≤◌, ◌+◌, ◌*◌, Bool, true, false, not, List, Option, None, Some, get_or, length, refl, sym, ◌∙◌, ap, subst, ⊎_elim, arith}
use Rattle.std.proofs.lemmas.Bool.{cases_eq, cases_lt, false≢true}
use Rattle.std.proofs.lemmas.List.{get_or-set_other, get_or-set_same, get_or_past, length-set}
use Rattle.std.proofs.lemmas.List.Elements.{All-contains, All-contains_itself, All-weaker}
use Rattle.std.specs.List.{All, Contains}
use Rattle.std.specs.Prelude.{slice_set}
use Rattle.ata_types.specs.declared.Port.{Port}
use Rattle.ata_types.specs.declared.PortState.{PortState}
use Rattle.ata_types.specs.declared.PortState.TheVariants.{Absent as AbsentState, Ready as ReadyState, Dead as DeadState}
use Rattle.ata_types.specs.declared.request.ClientId.{ClientId}
use Rattle.ata_types.specs.declared.request.RequestId.{RequestId}
use Rattle.hba_regs.specs.Bits.{bit}
use Rattle.adapter.specs.Device.{Device}
use Rattle.adapter.specs.Rules.{HasPort, IsOn}
use Rattle.adapter.specs.declared.command.Operation.TheVariants.{Identify}
use Rattle.refinement.specs.Acts.{DriverSlots}
use Rattle.refinement.specs.Relation.{port_at}
use Rattle.refinement.specs.Fragments.{AnyAccess, IsDrivenBy, AccessesNoOtherPort, OnlyDeviceChangesPort, GainsNoMove}
use Rattle.refinement.specs.Halting.{HaltFitsTakenCommands, HaltFitsTakenCommandsIfSt}
use Rattle.refinement.specs.PreservedParts.{HasDet3IfDiskPresent, SameAdapter}
use Rattle.block_machine.specs.DueRequests.{is_plain}
use Rattle.block_machine.specs.Events.{ShowsDisk}
use Rattle.block_machine.specs.Histories.{IsReachable}
use Rattle.block_machine.specs.State.{Machine}
use Rattle.block_machine.specs.declared.due.QueueMode.{QueueMode}
use Rattle.dma_frames.specs.Loan.{Lending}
use Rattle.dma_frames.specs.FrameTables.{OwnersAndLoans}
use Rattle.driver_history.specs.PortInvariants.{EngineRuns}
use Rattle.error_recovery.specs.Recovery.{EndsAsNext}
use Rattle.error_recovery.specs.declared.Next.{Next}
use Rattle.error_recovery.specs.declared.Next.TheVariants as next
use Rattle.host_boot.specs.Reboots.{RebootsPort, EndsReadyOrUnready, IsCapPiOrBootAccess}
use Rattle.host_boot.specs.TakeOver.{FoundUnusableDevice, IsWantedAndImplemented, StillBacksProbeResult, probe_result_of, wanted_of}
use Rattle.host_boot.specs.declared.Booted.{Booted}
use Rattle.host_boot.specs.declared.ProbeResult.{ProbeResult}
use Rattle.host_boot.specs.declared.ProbeResult.TheVariants.{Unserved, Ready, Unready}
use Rattle.identify.specs.Wanted.{serial_of}
use Rattle.identify.specs.declared.DiskInfo.{DiskInfo}
use Rattle.identify.specs.declared.wanted.Wanted.{Wanted}
use Rattle.port_boot.specs.States.{BacksState, ShownDiskIsIn}
use Rattle.port_control.specs.Ports.{BacksFault}
use Rattle.port_control.specs.declared.PortFault.TheVariants.{EngineStuck}
use Rattle.port_control.specs.declared.Running as running_token
use Rattle.request_queue.specs.BookEntries.{BookEntry, IsWellFormedEntry, BookIsWellFormed}
use Rattle.slots.specs.SlotUses.{PortSlots, use_at}
use Rattle.slots.specs.declared.SlotUse.{SlotUse}
use Rattle.server_history.specs.Prerequisites.{PrerequisiteLaws}
use Rattle.server_history.specs.ErrorHandling.{IsFoundAfterError, HasAllSlotsFreeAndCountOfMode}
use Rattle.server_history.specs.ServerState.{SlotsInvariant, ServerState, InCallInvariant, MachineRelation, PortInvariant, is_served, quarantined_at, mode_at, probed_mode, mode_in, no_slots, plain_mode, slots_at, state_of, usable_slots_of, used_for, RevokedMarkInvariant}
use Rattle.port_control.specs.declared.events.PortError.{PortError}
use Rattle.server_history.proofs.state.PortGrounds.{left_on}
use Rattle.server_history.proofs.recovery_turn.OtherPorts.{Passes}
use Rattle.server_history.proofs.state.DrivenAccesses.{driven_as}
use Rattle.server_history.proofs.dispositions.RemainingBook.{WasIn, marked_from}
use Rattle.server_history.proofs.recovery_turn.FoundDisk.{boot_sees}
use Rattle.server_history.proofs.recovery_turn.BootOrAbsence.{IsFoundAbsent, boots_or_absent}

-- ---- a port

-- What stands behind a port that was found so, as a server has it.
pub record StandsAt (wanted : Wanted) (found : ProbeResult) (port : ℕ) (d : Device) : Type 0 where
  pub behind : StillBacksProbeResult wanted found port d
  pub runs : state_of found ≡ ReadyState → EngineRuns port d
  pub shown : FoundUnusableDevice (state_of found) → HasDet3IfDiskPresent (d.port port)
  pub own : state_of found ≡ ReadyState → ShownDiskIsIn (d.port port)
  pub halts : state_of found ≡ ReadyState → HaltFitsTakenCommands (d.port port)

its_port : (wanted : List Wanted) (found : List ProbeResult) (port : ℕ) (d : Device) → StandsAt (wanted_of wanted port) (probe_result_of found port) port d → PortInvariant wanted found port d
its_port wanted found port d s = record { probe_result_is_backed = s.behind; ready_engine_runs = s.runs; bad_disk_is_shown_if_in = s.shown; ready_has_disk_if_det_3 = s.own; ready_halt_fits_taken_commands = s.halts }

-- another port is left to the device
other_stands : PrerequisiteLaws → (port : Port) (wanted : Wanted) (found : ProbeResult) (q : ℕ) (old new : Device) → q ≢ port.0 → IsOn old → IsDrivenBy (AccessesNoOtherPort port) old new → SameAdapter old new
    → (found ≢ Unready DeadState → GainsNoMove q Identify old new) → (HaltFitsTakenCommandsIfSt (old.port q) → HaltFitsTakenCommandsIfSt (new.port q)) → StandsAt wanted found q old → StandsAt wanted found q new
other_stands laws port wanted found q old new other on driven same silent halts s = record {
  behind = left_on laws wanted found q old new same left silent s.behind;
  runs = λ ready.
      let r = s.runs ready in
      let st = left.controls.st_is_kept ∙ r.st_is_set in
      record {
        st_is_set = st;
        cr_is_set = left.controls.engine_stays_running r.st_is_set r.cr_is_set;
        fre_is_set = left.controls.fre_is_kept ∙ r.fre_is_set;
        bases_are_programmed = left.bits_only_fall.bases_are_kept ∙ r.bases_are_programmed;
        device_was_seen = ap (λ n. n.link_wait_count) left.notes ∙ r.device_was_seen;
        faults_are_recorded = laws.recovery.other_port_keeps_record port q old new other driven (λ _. r.faults_are_recorded) st;
      };
  shown = λ bad. laws.recovery.other_port_keeps_shown_disk (port_at q) port old new other on driven (s.shown bad);
  own = λ ready. laws.recovery.shown_disk_stays_in q driven.accesses old new driven.all_are_done (s.own ready);
  halts = λ ready. halts (λ _. s.halts ready) (left.controls.st_is_kept ∙ (s.runs ready).st_is_set);
}
  where
    left : OnlyDeviceChangesPort (old.port q) (new.port q)
    left = laws.port_event_laws.other_ports_are_left port q old new other on driven

pub same_over : PrerequisiteLaws → (port : Port) (old new : Device) → IsDrivenBy (AccessesNoOtherPort port) old new → SameAdapter old new
same_over laws port old new driven = laws.port_event_laws.accesses_keep_adapter old new (driven_as (AccessesNoOtherPort port) AnyAccess old new (λ access is. tt) driven)

pub still_there : (port : ℕ) (old new : Device) → SameAdapter old new → HasPort old port → HasPort new port
still_there port old new same there = (there.0, ap (λ (pi : ℕ). bit pi port) same.pi ∙ there.1)

-- ---- a port that was booted anew

module _ (laws : PrerequisiteLaws) (wanted : Wanted) (port : Port) (d new : Device) (on : IsOn d) (served : IsWantedAndImplemented wanted port.0 d) where
  -- its engine was awaited in vain
  pub dies_then : (d.port port.0).st ≡ false → BacksFault EngineStuck (d.port port.0).notes → StandsAt wanted (Unready DeadState) port.0 d
  dies_then st stuck = record {
    behind = (served, (st, stuck));
    runs = λ is. let z : DeadState ≡ ReadyState = is in absurd cc;
    shown = λ bad. absurd bad;
    own = λ is. let z : DeadState ≡ ReadyState = is in absurd cc;
    halts = λ is. let z : DeadState ≡ ReadyState = is in absurd cc;
  }

  -- no device showed
  absent_then : new.pi ≡ d.pi → BacksState (serial_of wanted) AbsentState port.0 new → StandsAt wanted (Unready AbsentState) port.0 new
  absent_then same_pi ended = record {
    behind = ((served.0, ap (λ (pi : ℕ). bit pi port.0) same_pi ∙ served.1), ended);
    runs = λ is. let z : AbsentState ≡ ReadyState = is in absurd cc;
    shown = λ bad. absurd bad;
    own = λ is. let z : AbsentState ≡ ReadyState = is in absurd cc;
    halts = λ is. let z : AbsentState ≡ ReadyState = is in absurd cc;
  }

  module _ (booted : Booted) (b : RebootsPort wanted port booted d new) where
    runs_as : (f : ProbeResult) → EndsReadyOrUnready wanted port f b.device_after_survey new → state_of f ≡ ReadyState → EngineRuns port.0 new
    runs_as Unserved none is = absurd none
    runs_as (Ready info) e is = record {
      st_is_set = e.ready.runs.st_is_set;
      cr_is_set = e.ready.runs.cr_is_set;
      fre_is_set = e.ready.runs.fre_is_set;
      bases_are_programmed = e.ready.runs.areas_are_in_place;
      device_was_seen = e.ready.device_was_seen.1;
      faults_are_recorded = e.shows_only_new_errors.faults_are_on_record e.ready.runs.st_is_set;
    }
    runs_as (Unready state) e is = absurd (subst (λ (s : PortState). BacksState (serial_of wanted) s port.0 new) is e.state_is_backed)

    halts_as : (f : ProbeResult) → EndsReadyOrUnready wanted port f b.device_after_survey new → state_of f ≡ ReadyState → HaltFitsTakenCommands (new.port port.0)
    halts_as Unserved none is = absurd none
    halts_as (Ready info) e is = e.halt_fits_taken_commands
    halts_as (Unready state) e is = absurd (subst (λ (s : PortState). BacksState (serial_of wanted) s port.0 new) is e.state_is_backed)

    shown_as : (f : ProbeResult) → booted.found ≡ f → FoundUnusableDevice (state_of f) → HasDet3IfDiskPresent (new.port port.0)
    shown_as Unserved is bad = absurd bad
    shown_as (Ready info) is bad = absurd bad
    shown_as (Unready state) is bad = laws.recovery.reboot_shows_bad_disk wanted port booted state d new on b bad is

    pub asked_on : IsOn b.device_after_survey
    asked_on = laws.one_port_keeps_adapter_on port d b.device_after_survey on (driven_as (IsCapPiOrBootAccess port) (AccessesNoOtherPort port) d b.device_after_survey (laws.recovery.boot_start_access_is_of_port port) b.surveys.is_driven)

    own_as : state_of booted.found ≡ ReadyState → ShownDiskIsIn (new.port port.0)
    own_as is =
        let sees = boot_sees laws port wanted booted.found b.device_after_survey new asked_on b.boots (subst ShowsDisk (sym is) tt) in
        laws.recovery.shown_disk_stays_in port.0 sees.late.accesses sees.seen new sees.late.all_are_done sees.own

    pub boots_then : StandsAt wanted booted.found port.0 new
    boots_then = record {
      behind = laws.recovery.backing_begins wanted booted.found port.0 new (laws.recovery.reboot_backs_result wanted port booted d new b served);
      runs = runs_as booted.found b.boots;
      shown = shown_as booted.found refl;
      own = own_as;
      halts = halts_as booted.found b.boots;
    }

  -- it was found so, where it wasn't found running
  pub stands_after : (queued : Bool) (port_error : PortError) (was : DiskInfo) (old : Device) (then : Next) (found : ProbeResult) → EndsAsNext queued port then old d → IsFoundAfterError wanted port port_error was then d new found → new.pi ≡ d.pi
      → ((token : running_token.Running) → then ≡ next.Running token → StandsAt wanted (Ready was) port.0 d) → StandsAt wanted found port.0 new
  stands_after queued port_error was old (next.Running token) found ends (is, same) same_pi runs =
      subst (λ (f : ProbeResult). StandsAt wanted f port.0 new) (sym is) (subst (StandsAt wanted (Ready was) port.0) (sym same) (runs token refl))
  stands_after queued port_error was old (next.Restart token) found ends (booted, is, b) same_pi runs = subst (λ (f : ProbeResult). StandsAt wanted f port.0 new) is (⊎_elim
      (boots_then booted)
      (λ (absent : IsFoundAbsent wanted port port_error booted.found d new). subst (λ (f : ProbeResult). StandsAt wanted f port.0 new) (sym absent.is) (absent_then same_pi absent.ended))
      (boots_or_absent port_error wanted port booted d new b))
  stands_after queued port_error was old next.Dead found ends (is, same) same_pi runs =
      subst (λ (f : ProbeResult). StandsAt wanted f port.0 new) (sym is) (subst (StandsAt wanted (Unready DeadState) port.0) (sym same) (dies_then ends.0 ends.1))

-- ---- the server

-- a port that is served is in the list
pub is_listed : (ports : List ProbeResult) (port : ℕ) → is_served (probe_result_of ports port) ≡ true → port < length ports
is_listed ports port served = ⊎_elim
    (λ (less : port < length ports). less)
    (λ (high : length ports ≤ port). absurd (false≢true (sym (ap is_served (get_or_past ports port Unserved high)) ∙ served)))
    (cases_lt port (length ports))

-- the server, with this device and book, and with the port found so, which takes commands so and uses these slots
abbrev pub with_found : Port → Device → OwnersAndLoans → ProbeResult → List (Option DiskInfo) → QueueMode → PortSlots → List (List Lending) → List BookEntry → ServerState → ServerState
with_found port device table found remembered mode its kept book s = record s {
  device = device;
  table = table;
  probe_results = slice_set s.probe_results port.0 found;
  remembered = remembered;
  modes = slice_set s.modes port.0 mode;
  slots = slice_set s.slots port.0 its;
  kept_loans = kept;
  book = book;
}

-- What of a server has to hold then: each request was one of it before, and is of a ready port.
pub record IsBookLeft (port : Port) (found : ProbeResult) (table : OwnersAndLoans) (book : List BookEntry) (s : ServerState) : Type 0 where
  pub owners : table.owners ≡ s.table.owners
  pub accepted : All (IsWellFormedEntry table) book
  pub ordered : BookIsWellFormed book
  pub from : (e : BookEntry) → Contains book e → WasIn s.book e
  pub ready : (e : BookEntry) → Contains book e → e.request.port.0 ≡ port.0 → state_of found ≡ ReadyState

module _ (laws : PrerequisiteLaws) (port : Port) (s : ServerState) (k : InCallInvariant s) (low : port.0 < 4) (device : Device) (slots : DriverSlots) (whole : Passes s port slots device) (table : OwnersAndLoans)
    (found : ProbeResult) (remembered : List (Option DiskInfo)) (mode : QueueMode) (its : PortSlots) (kept : List (List Lending)) (book : List BookEntry)
    (served : is_served (probe_result_of s.probe_results port.0) ≡ true) (stands : StandsAt (wanted_of s.wanted port.0) found port.0 device) (mode_is : mode ≡ probed_mode device.cap found) (unused : HasAllSlotsFreeAndCountOfMode mode its)
    (left : IsBookLeft port found table book s) where
  abbrev then_is : ServerState
  then_is = with_found port device table found remembered mode its kept book s

  alike : SameAdapter s.device device
  alike = same_over laws port s.device device whole.driven

  found_here : probe_result_of then_is.probe_results port.0 ≡ found
  found_here = get_or-set_same s.probe_results port.0 found Unserved (is_listed s.probe_results port.0 served)

  found_other : (q : ℕ) → q ≢ port.0 → probe_result_of then_is.probe_results q ≡ probe_result_of s.probe_results q
  found_other q other = get_or-set_other s.probe_results port.0 q found Unserved other

  mode_here : mode_at then_is.modes port.0 ≡ mode
  mode_here = get_or-set_same s.modes port.0 mode plain_mode (let four = k.modes_are_of_four_ports in omega (arith, four, low))

  mode_other : (q : ℕ) → q ≢ port.0 → mode_at then_is.modes q ≡ mode_at s.modes q
  mode_other q other = get_or-set_other s.modes port.0 q mode plain_mode other

  slots_here : slots_at then_is.slots port.0 ≡ its
  slots_here = get_or-set_same s.slots port.0 its no_slots (let four = k.slots_are_of_four_ports in omega (arith, four, low))

  slots_other : (q : ℕ) → q ≢ port.0 → slots_at then_is.slots q ≡ slots_at s.slots q
  slots_other q other = get_or-set_other s.slots port.0 q its no_slots other

  -- what is used is of another port, and was used
  used_then : (q slot : ℕ) (used : SlotUse) → used_for then_is.slots q slot ≡ Some used → (q ≢ port.0) × (used_for s.slots q slot ≡ Some used)
  used_then q slot used is = ⊎_elim
      (λ (same : q ≡ port.0).
      let z : None ≡ Some used = sym (unused.all_slots_are_free slot) ∙ ap (λ (x : PortSlots). use_at x slot) (sym slots_here) ∙ ap (λ (p : ℕ). used_for then_is.slots p slot) (sym same) ∙ is in absurd cc)
      (λ (other : q ≢ port.0). (other, ap (λ (x : PortSlots). use_at x slot) (sym (slots_other q other)) ∙ is))
      (cases_eq q port.0)

  ports_stand : (q : ℕ) → q < 4 → PortInvariant s.wanted then_is.probe_results q device
  ports_stand q small = its_port s.wanted then_is.probe_results q device (⊎_elim
      (λ (same : q ≡ port.0).
      subst (λ (p : ℕ). StandsAt (wanted_of s.wanted p) (probe_result_of then_is.probe_results p) p device) (sym same) (subst (λ (f : ProbeResult). StandsAt (wanted_of s.wanted port.0) f port.0 device) (sym found_here) stands))
      (λ (other : q ≢ port.0).
      let was = k.port_invariant q small in
      subst (λ (f : ProbeResult). StandsAt (wanted_of s.wanted q) f q device) (sym (found_other q other))
      (other_stands laws port (wanted_of s.wanted q) (probe_result_of s.probe_results q) q s.device device other k.adapter_is_on whole.driven alike (λ alive. whole.silent q Identify refl other alive) (whole.halts q other)
      (record { behind = was.probe_result_is_backed; runs = was.ready_engine_runs; shown = was.bad_disk_is_shown_if_in; own = was.ready_has_disk_if_det_3; halts = was.ready_halt_fits_taken_commands })))
      (cases_eq q port.0))

  there_is : (q : ℕ) → is_served (probe_result_of then_is.probe_results q) ≡ true → HasPort device q
  there_is q is = still_there q s.device device alike (⊎_elim
      (λ (same : q ≡ port.0). subst (HasPort s.device) (sym same) (k.served_ports_exist port.0 served))
      (λ (other : q ≢ port.0). k.served_ports_exist q (ap is_served (sym (found_other q other)) ∙ is))
      (cases_eq q port.0))

  modes_are : (q : ℕ) → q < 4 → mode_at then_is.modes q ≡ probed_mode device.cap (probe_result_of then_is.probe_results q)
  modes_are q small = ⊎_elim
      (λ (same : q ≡ port.0).
      subst (λ (p : ℕ). mode_at then_is.modes p ≡ probed_mode device.cap (probe_result_of then_is.probe_results p)) (sym same) (mode_here ∙ mode_is ∙ ap (λ (f : ProbeResult). probed_mode device.cap f) (sym found_here)))
      (λ (other : q ≢ port.0). mode_other q other ∙ k.modes_are_probed q small ∙ (λ i. probed_mode (sym alike.cap i) (sym (found_other q other) i)))
      (cases_eq q port.0)

  slots_are : (q : ℕ) → q < 4 → SlotsInvariant then_is.probe_results then_is.modes then_is.slots q
  slots_are q small = ⊎_elim
      (λ (same : q ≡ port.0). subst (SlotsInvariant then_is.probe_results then_is.modes then_is.slots) (sym same) (record {
        has_32_slots = ap (λ (x : PortSlots). length x.slot_uses) slots_here ∙ unused.has_32_slots;
        usable_count_is_of_mode = ap (λ (x : PortSlots). x.usable_count) slots_here ∙ unused.usable_count_is_of_mode ∙ ap (λ (m : QueueMode). m.usable_slots) (sym mode_here);
        unusable_are_unused = λ slot high. ap (λ (x : PortSlots). use_at x slot) slots_here ∙ unused.all_slots_are_free slot;
      }))
      (λ (other : q ≢ port.0).
      let was = k.slots_invariant q small in
      record {
        has_32_slots = ap (λ (x : PortSlots). length x.slot_uses) (slots_other q other) ∙ was.has_32_slots;
        usable_count_is_of_mode = ap (λ (x : PortSlots). x.usable_count) (slots_other q other) ∙ was.usable_count_is_of_mode ∙ ap (λ (m : QueueMode). m.usable_slots) (sym (mode_other q other));
        unusable_are_unused = λ slot high.
            ap (λ (x : PortSlots). use_at x slot) (slots_other q other)
            ∙ was.unusable_are_unused slot (subst (λ (f : ProbeResult). usable_slots_of f (mode_at s.modes q) ≤ slot) (found_other q other)
            (subst (λ (m : QueueMode). usable_slots_of (probe_result_of then_is.probe_results q) m ≤ slot) (mode_other q other) high));
      })
      (cases_eq q port.0)

  -- ---- the requests

  ready_one : (e : BookEntry) → Contains book e → state_of (probe_result_of then_is.probe_results e.request.port.0) ≡ ReadyState
  ready_one e here =
      let w = left.from e here in ⊎_elim
      (λ (same : e.request.port.0 ≡ port.0). ap (λ (q : ℕ). state_of (probe_result_of then_is.probe_results q)) same ∙ ap state_of found_here ∙ left.ready e here same)
      (λ (other : e.request.port.0 ≢ port.0).
      ap state_of (found_other e.request.port.0 other) ∙ ap (λ (p : Port). state_of (probe_result_of s.probe_results p.0)) w.port
      ∙ All-contains (λ (x : BookEntry). state_of (probe_result_of s.probe_results x.request.port.0) ≡ ReadyState) s.book w.was k.requests_are_of_ready_ports w.there)
      (cases_eq e.request.port.0 port.0)

  marked_one : (e : BookEntry) → Contains book e → RevokedMarkInvariant s.grants e
  marked_one e here = marked_from s.grants s.book k.revoked_marks_agree e (left.from e here)

  handed_one : (e : BookEntry) → Contains book e → e.request.id.0 ≤ s.last_id
  handed_one e here =
      let w = left.from e here in
      subst (λ (id : RequestId). id.0 ≤ s.last_id) (sym w.id) (All-contains (λ (x : BookEntry). x.request.id.0 ≤ s.last_id) s.book w.was k.ids_were_handed_out w.there)

  -- what holds of each that is left
  each_left : (P : BookEntry → Type 0) → ((e : BookEntry) → Contains book e → P e) → All P book
  each_left P one = All-weaker (Contains book) P one book (All-contains_itself book)

  kinds_are : (q : Port) (slot : ℕ) (used : SlotUse) (e : BookEntry) → used_for then_is.slots q.0 slot ≡ Some used → Contains book e → e.request.id ≡ used.id
      → used.queued ≡ not (is_plain (mode_in then_is q) e.request.op)
  kinds_are q slot used e is here same =
      let u = used_then q.0 slot used is in
      let w = left.from e here in
      k.slots_queue_as_asked q slot used w.was u.1 w.there (sym w.id ∙ same) ∙ (λ i. not (is_plain (sym (mode_other q.0 u.0) i) (sym w.op i)))

  -- ---- the whole

  pub replaced_kept : length remembered ≡ 4 → length kept ≡ 4 → ((q : ℕ) → length (quarantined_at kept q) ≤ 32) → (machine : Machine) → IsReachable machine → MachineRelation then_is machine → InCallInvariant then_is
  replaced_kept four_remembered four_kept few_kept machine reached is = record {
    adapter_is_on = whole.on;
    driver_memory_fits = let room = k.driver_memory_fits in let size = alike.memory_size in omega (arith, room, size);
    served_ports_exist = there_is;
    port_invariant = ports_stand;
    slots_are_of_four_ports = length-set s.slots port.0 its ∙ k.slots_are_of_four_ports;
    modes_are_of_four_ports = length-set s.modes port.0 mode ∙ k.modes_are_of_four_ports;
    remembered_is_of_four_ports = four_remembered;
    kept_loans_are_of_four_ports = four_kept;
    at_most_32_loans_kept_by_port = few_kept;
    modes_are_probed = modes_are;
    slots_invariant = slots_are;
    slots_queue_as_asked = kinds_are;
    slots_store_commands = λ q slot used is. let u = used_then q slot used is in whole.commands q slot used u.0 u.1;
    plain_is_alone_in_slot_0 = λ q slot used is plain.
        let u = used_then q slot used is in
        let was = k.plain_is_alone_in_slot_0 q slot used u.1 plain in
        (was.0, λ other ne. ap (λ (x : PortSlots). use_at x other) (slots_other q u.0) ∙ was.1 other ne);
    rows_are_valid = k.rows_are_valid;
    owned_frames_are_clients = λ frame client own.
        let o = k.owned_frames_are_clients frame client (ap (λ (list : List (Option ClientId)). get_or list frame.0 None) (sym left.owners) ∙ own) in
        (o.0, subst (λ (n : ℕ). 4096 * frame.0 + 4096 ≤ n) (sym alike.memory_size) o.1);
    entries_are_well_formed = left.accepted;
    book_is_well_formed = left.ordered;
    revoked_marks_agree = each_left (RevokedMarkInvariant s.grants) marked_one;
    ids_were_handed_out = each_left (λ (e : BookEntry). e.request.id.0 ≤ s.last_id) handed_one;
    requests_are_of_ready_ports = each_left (λ (e : BookEntry). state_of (probe_result_of then_is.probe_results e.request.port.0) ≡ ReadyState) ready_one;
    machine = machine;
    reached = reached;
    machine_relation = is;
  }
