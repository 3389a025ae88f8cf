-- A server whose adapter didn't end its reset, and what holds of a server whether or not its adapter is on (this
-- project's own).
use Rattle.std.specs.Prelude.{ℕ, true, ◌≡◌, ◌↔◌, ◌+◌, ◌<◌, ◌≤◌, List, None, All, count_by, length}
use Rattle.ata_types.specs.declared.Port.{Port}
use Rattle.ata_types.specs.declared.PortState.TheVariants.{Dead}
use Rattle.ata_types.specs.declared.memory.TheConstants.{DRIVER_BYTES}
use Rattle.adapter.specs.Idle.{IsIdlePort}
use Rattle.adapter.specs.Rules.{IsOn}
use Rattle.refinement.specs.Relation.{port_at}
use Rattle.block_machine.specs.Histories.{IsReachable}
use Rattle.block_machine.specs.Expected.{IsValidRow}
use Rattle.block_machine.specs.State.{Machine}
use Rattle.host_boot.specs.Resets.{ResetStaysPending}
use Rattle.host_boot.specs.TakeOver.{IsWantedAndImplemented, probe_result_of, wanted_of}
use Rattle.host_boot.specs.declared.ProbeResult.{ProbeResult}
use Rattle.host_boot.specs.declared.ProbeResult.TheVariants.{Unserved, Unready}
use Rattle.request_queue.specs.BookEntries.{BookEntry, IsWellFormedEntry, BookIsWellFormed}
use Rattle.server_history.specs.ErrorHandling.{requests_of}
use Rattle.server_history.specs.ServerState.{ServerState, MachineRelation, RevokedMarkInvariant, OwnedFramesAreClientsAndInMemory, last_disk_in, is_served, quarantined_at, mode_at, plain_mode, remembered_at, slots_at, used_for}

-- What holds of a server whether or not its adapter is on. The adapter has the memory of the driver and of the clients.
-- Ports are served in which a disk is wanted, and which the adapter has. Another one is idle, has no slot that is used,
-- and no request waits for it. For each of the four ports a disk may be remembered, and there is a place for the loan
-- of each of its issued requests beside those that are kept. Grants are as a configuration may give them. Requests are
-- as they were accepted, in order, with marks that say whether their grants are there, of served ports, and with ids
-- that were given out. Some machine that a history leads to stands for the server.
pub record ServerInvariant (s : ServerState) : Type 0 where
  pub driver_memory_fits : DRIVER_BYTES ≤ s.device.memory_size
  pub served_iff_wanted_and_there : (port : ℕ) → port < 4 → (is_served (probe_result_of s.probe_results port) ≡ true)
      ↔ IsWantedAndImplemented (wanted_of s.wanted port) port s.device
  pub served_are_below_4 : (port : ℕ) → is_served (probe_result_of s.probe_results port) ≡ true → port < 4
  pub unserved_are_idle : (port : ℕ) → port < 4 → probe_result_of s.probe_results port ≡ Unserved
      → IsIdlePort (s.device.port port)
  pub unserved_use_no_slot : (port slot : ℕ) → probe_result_of s.probe_results port ≡ Unserved
      → used_for s.slots port slot ≡ None
  pub slots_are_of_four_ports : length s.slots ≡ 4
  pub modes_are_of_four_ports : length s.modes ≡ 4
  pub remembered_is_of_four_ports : length s.remembered ≡ 4
  pub kept_loans_are_of_four_ports : length s.kept_loans ≡ 4
  pub kept_loans_have_room : (port : Port)
      → length (quarantined_at s.kept_loans port.0) + count_by (λ (e : BookEntry). e.request.issued)
      (requests_of port s.book) ≤ 32
  pub rows_are_valid : All IsValidRow s.grants
  pub owned_frames_are_clients : OwnedFramesAreClientsAndInMemory s.table s.device.memory_size
  pub entries_are_well_formed : All (IsWellFormedEntry s.table) s.book
  pub book_is_well_formed : BookIsWellFormed s.book
  pub revoked_marks_agree : All (RevokedMarkInvariant s.grants) s.book
  pub ids_were_handed_out : All (λ e. e.request.id.0 ≤ s.last_id) s.book
  pub requests_are_of_served_ports : All (λ e. is_served (probe_result_of s.probe_results e.request.port.0) ≡ true)
      s.book
  pub machine : Machine
  pub reached : IsReachable machine
  pub machine_relation : MachineRelation s machine

-- each port that is served is dead
abbrev pub ServedPortsAreDead : List ProbeResult → Type 0
ServedPortsAreDead found = (port : ℕ) → is_served (probe_result_of found port) ≡ true
    → probe_result_of found port ≡ Unready Dead

-- What holds of a server between calls after a reset that got stuck: the adapter isn't on (HR is still one, or AE fell
-- when the reset finished unseen), and each port that is served is dead. Requests from before that reset may wait for
-- the service that answers them.
pub record StuckInvariant (s : ServerState) : Type 0 where
  pub server_invariant : ServerInvariant s
  pub adapter_is_not_on : IsOn s.device → ⊥
  pub served_ports_are_dead : ServedPortsAreDead s.probe_results

-- the port as it is after that: dead, if it is served
abbrev pub found_after_stuck_reset : ProbeResult → ProbeResult
found_after_stuck_reset Unserved = Unserved
found_after_stuck_reset _ = Unready Dead

-- A reset got stuck: each served port is dead, its last disk is remembered, it takes plain commands and uses no slot.
-- No request is answered and no frame given back.
pub record ResetGetsStuck (old new : ServerState) : Type 0 where
  pub reset_stays_pending : ResetStaysPending old.device new.device
  pub served_ports_become_dead : (port : ℕ) → probe_result_of new.probe_results port
      ≡ found_after_stuck_reset (probe_result_of old.probe_results port)
  pub last_disks_are_remembered : (port : ℕ) → remembered_at new.remembered port ≡ last_disk_in old (port_at port)
  pub remembered_is_of_four_ports : length new.remembered ≡ 4
  pub modes_are_of_four_ports : length new.modes ≡ 4
  pub modes_are_plain : (port : ℕ) → port < 4 → mode_at new.modes port ≡ plain_mode
  pub slots_are_of_four_ports : length new.slots ≡ 4
  pub has_32_slots : (port : ℕ) → port < 4 → length (slots_at new.slots port).slot_uses ≡ 32
  pub usable_count_is_of_mode : (port : ℕ) → port < 4 → (slots_at new.slots port).usable_count
      ≡ (mode_at new.modes port).usable_slots
  pub no_slot_is_used : (port slot : ℕ) → used_for new.slots port slot ≡ None
  pub server_is : new ≡ record old {
    device = new.device;
    probe_results = new.probe_results;
    remembered = new.remembered;
    modes = new.modes;
    slots = new.slots;
  }
