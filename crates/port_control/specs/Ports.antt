-- A port that is stopped, receives FISes, or runs, and what the calls of this crate leave of it (AHCI 1.3.1, 3.3 and
-- 10).
use Rattle.std.specs.Prelude.{ℕ, true, false, ◌≡◌, ◌≢◌, ◌<◌, ◌≤◌, ◌⊎◌, ◌%◌, ◌||◌, length, None}
use Rattle.ata_types.specs.declared.Port.{Port}
use Rattle.ata_types.specs.declared.limits.TheConstants.{MOST_READINGS}
use Rattle.hba_regs.specs.Bits.{bit}
use Rattle.hba_regs.specs.declared.reg.PortReg.{PortReg}
use Rattle.hba_regs.specs.declared.reg.PortReg.TheVariants.{Clb, Clbu, Fb, Fbu, Is, Cmd, Tfd, Sig, Ssts, Sctl, Serr}
use Rattle.hba_regs.specs.declared.reg.Reg.TheVariants.{Px}
use Rattle.adapter.specs.Access.{Access, Reads, Writes}
use Rattle.adapter.specs.Access.Access.{Reading}
use Rattle.adapter.specs.Device.{Bases, Notes, DevicePort, Device}
use Rattle.adapter.specs.Rules.{IsOn, HasPort}
use Rattle.refinement.specs.Fragments.{SomeMachineAgreesWith, AnySlotStates, ReadsPortOrWrites, IsDrivenBy, IsSimulatedAlong}
use Rattle.refinement.specs.Errors.{NoDiskComes}
use Rattle.refinement.specs.PortFacts.{WhileLinkAwaitedCrIsClearAndDrqSet, IsEngineStopped, IsCleanToStart}
use Rattle.refinement.specs.PreservedParts.{NoPlugEvents}
use Rattle.refinement.specs.MemoryLayout.{command_list_address, received_fis_address}
use Rattle.refinement.specs.Slots.{SlotStates}
use Rattle.refinement.specs.StartedPort.{IsUpForStart, IsStoppedAndUpForStartIfDet3}
use Rattle.port_control.specs.Engines.{FailsToStop, FailsToStopReceiving, Stops, StopsReceiving}
use Rattle.port_control.specs.declared.PortFault.{PortFault}
use Rattle.port_control.specs.declared.PortFault.TheVariants.{NoDevice, Busy, EngineStuck, NotAta}

-- ---- registers

-- PxCMD alone
abbrev pub IsCommandRegister : PortReg → Type 0
IsCommandRegister r = r ≡ Cmd

-- PxCMD, and the addresses of the command list and of the received FIS area
abbrev pub IsCmdOrBaseRegister : PortReg → Type 0
IsCmdOrBaseRegister r = (r ≡ Cmd) ⊎ (r ≡ Clb) ⊎ (r ≡ Clbu) ⊎ (r ≡ Fb) ⊎ (r ≡ Fbu)

-- PxSERR and PxIS, whose bits are cleared by ones
abbrev pub IsSerrOrIs : PortReg → Type 0
IsSerrOrIs r = (r ≡ Serr) ⊎ (r ≡ Is)

-- these and PxSCTL
abbrev pub IsSctlSerrOrIs : PortReg → Type 0
IsSctlSerrOrIs r = (r ≡ Sctl) ⊎ IsSerrOrIs r

-- ---- the states of a port

-- The adapter is on and has the port; and some machine agrees with its device, with uses of the slots that fit.
pub record IsOnWithPortAndAgrees (Fits : SlotStates → Type 0) (port : Port) (d : Device) : Type 0 where
  pub adapter_is_on : IsOn d
  pub has_port : HasPort d port.0
  pub machine_is_related : SomeMachineAgreesWith Fits d

-- where the port has its command list and its received FIS area
abbrev pub programmed_bases : ℕ → Bases
programmed_bases port =
    record {
      clb = command_list_address port;
      fb = received_fis_address port;
      clb_set = true;
      clbu_set = true;
      fb_set = true;
      fbu_set = true;
    }

-- ST and CR are 0, and no command is issued, active or taken.
pub record IsStopped (p : DevicePort) : Type 0 where
  pub engine_is_stopped : IsEngineStopped p
  pub sact_is_clear : (slot : ℕ) → p.sact slot ≡ false

-- Stopped, and FISes are received, with command list and received FIS area in their places.
pub record IsStoppedReceiving (port : ℕ) (p : DevicePort) : Type 0 where
  pub stopped : IsStopped p
  pub fre_is_set : p.fre ≡ true
  pub areas_are_in_place : p.bases ≡ programmed_bases port

-- It runs and receives FISes, with list and area in their places, and no command is issued, active or taken.
pub record RunsInPlaceWithoutCommands (port : ℕ) (p : DevicePort) : Type 0 where
  pub st_is_set : p.st ≡ true
  pub cr_is_set : p.cr ≡ true
  pub fre_is_set : p.fre ≡ true
  pub areas_are_in_place : p.bases ≡ programmed_bases port
  pub ci_is_clear : (slot : ℕ) → p.ci slot ≡ false
  pub sact_is_clear : (slot : ℕ) → p.sact slot ≡ false
  pub none_is_taken : (slot : ℕ) → p.taken slot ≡ None

-- ---- what readings show

-- a value of PxSSTS shows a device with a link: DET is 3 (AHCI 1.3.1, 3.3.10)
abbrev pub HasLink : ℕ → Type 0
HasLink v = v % 16 ≡ 3

-- a value of PxTFD shows neither BSY nor DRQ (AHCI 1.3.1, 3.3.8)
abbrev pub ShowsIdle : ℕ → Type 0
ShowsIdle v = bit v 7 || bit v 3 ≡ false

-- a device with a link, since SCTL was written
abbrev pub SawDeviceSinceSctlWrite : Notes → Type 0
SawDeviceSinceSctlWrite n = (n.last_ssts % 16 ≡ 3) × (n.link_wait_count ≡ MOST_READINGS)

-- neither BSY nor DRQ
abbrev pub SawIdle : Notes → Type 0
SawIdle n = ShowsIdle n.last_tfd

-- What stands behind a fault: the count of the awaited readings is 64; or the signature was another than an ATA
-- disk's.
abbrev pub BacksFault : PortFault → Notes → Type 0
BacksFault NoDevice n = (n.last_ssts % 16 ≢ 3) × (n.link_wait_count ≡ MOST_READINGS)
BacksFault Busy n = SawDeviceSinceSctlWrite n × (n.busy_count ≡ MOST_READINGS)
BacksFault EngineStuck n = n.engine_wait_count ≡ MOST_READINGS
BacksFault (NotAta signature) n = SawDeviceSinceSctlWrite n × ShowsIdle n.last_tfd × (n.last_sig ≡ signature)
    × (signature ≢ 0x101)

-- ---- what the calls leave

-- all that readings noted is as it was, but for those of PxCMD
abbrev pub SameButCmdNotes : Notes → Notes → Type 0
SameButCmdNotes old new = new ≡ record old { last_cmd = new.last_cmd; engine_wait_count = new.engine_wait_count }

-- so are PxSCTL.DET and all that readings noted
abbrev pub SameSctlAndNotesButCmd : DevicePort → DevicePort → Type 0
SameSctlAndNotesButCmd old new = (new.sctl_det ≡ old.sctl_det) × SameButCmdNotes old.notes new.notes

-- the same where ST is set, but for when that was
abbrev pub SameSctlAndNotesButCmdAndStart : DevicePort → DevicePort → Type 0
SameSctlAndNotesButCmdAndStart old new =
    (new.sctl_det ≡ old.sctl_det)
    × (new.notes ≡ record old.notes {
      last_cmd = new.notes.last_cmd;
      engine_wait_count = new.notes.engine_wait_count;
      st_set_at = new.notes.st_set_at;
    })

-- ST is 0 with no command issued or active; all else of the driver's is as it was.
pub record ClearsStAlone (old new : DevicePort) : Type 0 where
  pub st_is_clear : new.st ≡ false
  pub ci_is_clear : (slot : ℕ) → new.ci slot ≡ false
  pub sact_is_clear : (slot : ℕ) → new.sact slot ≡ false
  pub fre_is_kept : new.fre ≡ old.fre
  pub bases_are_kept : new.bases ≡ old.bases
  pub sctl_det_is_kept : new.sctl_det ≡ old.sctl_det
  pub other_notes_are_kept : SameButCmdNotes old.notes new.notes

-- it reads this register of the port, whose value doesn't show this
abbrev pub IsVainReading : Port → PortReg → (ℕ → Type 0) → Access → Type 0
IsVainReading port r Shown (Reading at v) = (at ≡ Px port r) × (Shown v → ⊥)
IsVainReading port r Shown access = ⊥

-- The register was read so many times, and no value showed this; nothing else was done.
pub record ReadsInVain (port : Port) (r : PortReg) (Shown : ℕ → Type 0) (count : ℕ) (old new : Device) : Type 0 where
  pub reads : IsDrivenBy (IsVainReading port r Shown) old new
  pub count_is : length reads.accesses ≡ count

-- The register was read until its value showed this, 64 times at most.
pub record ReadsUntil (port : Port) (r : PortReg) (Shown : ℕ → Type 0) (old new : Device) : Type 0 where
  pub count : ℕ
  pub count_is_allowed : count < MOST_READINGS
  pub waited : Device
  pub waits : ReadsInVain port r Shown count old waited
  pub value : ℕ
  pub shown : Shown value
  pub reads : Reads (Px port r) value waited new

-- Each bit of PxSERR was cleared, and then each of PxIS (AHCI 1.3.1, 3.3.5 and 3.3.12).
pub record ClearsErrors (port : Port) (old new : Device) : Type 0 where
  pub between : Device
  pub clears_serr : Writes (Px port Serr) 0xffffffff old between
  pub clears_is : Writes (Px port Is) 0xffffffff between new

-- PxSSTS was read until it showed a device with a link, and the errors were cleared that it told by then (AHCI 1.3.1,
-- 10.1.2 and 10.4.2).
pub record FindsLinkAndClearsErrors (port : Port) (old new : Device) : Type 0 where
  pub after_link_is_seen : Device
  pub reads_until_link : ReadsUntil port Ssts HasLink old after_link_is_seen
  pub clears : ClearsErrors port after_link_is_seen new

-- After that PxTFD was read until it showed neither BSY nor DRQ, and PxSIG showed this signature. (It shows DRQ from
-- COMRESET until the link comes up, so no link is due then, whatever disks go and come.) A bit that is clear and is
-- cleared again leaves no trace, so it isn't told.
pub record FindsSignature (port : Port) (signature : ℕ) (old new : Device) : Type 0 where
  pub linked : Device
  pub finds_link : FindsLinkAndClearsErrors port old linked
  pub idle : Device
  pub waits : ReadsUntil port Tfd ShowsIdle linked idle
  pub reads : Reads (Px port Sig) signature idle new

-- Or 64 readings of PxTFD showed BSY or DRQ.
pub record FindsBusy (port : Port) (old new : Device) : Type 0 where
  pub linked : Device
  pub finds_link : FindsLinkAndClearsErrors port old linked
  pub waits : ReadsInVain port Tfd ShowsIdle MOST_READINGS linked new

-- What was done after COMRESET, where a fault is told: without a device, 64 readings of PxSSTS never showed one.
abbrev pub SeesResetFault : Port → PortFault → Device → Device → Type 0
SeesResetFault port NoDevice old new = ReadsInVain port Ssts HasLink MOST_READINGS old new
SeesResetFault port Busy old new = FindsBusy port old new
SeesResetFault port (NotAta signature) old new = FindsSignature port signature old new
SeesResetFault port EngineStuck old new = ⊥

-- COMRESET was sent first of all, and ended; then this was done. PxSCTL.DET is 0.
pub record SendsComresetThen (port : Port) (Then : Device → Device → Type 0) (old new : Device) : Type 0 where
  pub sent : Device
  pub sends : Writes (Px port Sctl) 1 old sent
  pub ended : Device
  pub ends : Writes (Px port Sctl) 0 sent ended
  pub does_rest : Then ended new
  pub no_comreset : (new.port port.0).sctl_det ≡ 0
  pub sctl_written_in_call : length old.tape ≤ (new.port port.0).notes.sctl_written_at
  pub sctl_time_in_tape : (new.port port.0).notes.sctl_written_at ≤ length new.tape

-- PxSERR shows N only where a disk of the port went or came since, and X only where one came: nothing is left of what
-- was before (AHCI 1.3.1, 3.3.12).
pub record SerrShowsOnlyNewPlugs (port : ℕ) (old new : Device) : Type 0 where
  pub serr_n_is_clear : NoPlugEvents port old new → (new.port port).serr_n ≡ false
  pub serr_x_is_clear : NoDiskComes port old new → (new.port port).serr_x ≡ false

-- PxIS is clear, and PxSERR shows only disks that went or came since. Where no disk came, the link isn't due to come up
-- any more; where none went either, it is up, with the disk's first FIS received. And whatever went or came: once PxTFD
-- is read without DRQ, which it shows from COMRESET until the link comes up, the link isn't due, so that ST may be set.
pub record IsClearAndUpUnlessPlugEvents (port : ℕ) (old new : Device) : Type 0 where
  pub no_cause_is_set : (place : ℕ) → place < 32 → (new.port port).is place ≡ false
  pub serr_shows_only_new_plugs : SerrShowsOnlyNewPlugs port old new
  pub no_link_is_due : NoDiskComes port old new → (new.port port).link_due ≡ false
  pub link_is_up : NoPlugEvents port old new → IsUpForStart (new.port port)
  pub is_clean_to_start : bit (new.port port).notes.last_tfd 3 ≡ false → IsCleanToStart (new.port port)

-- PxIS is clear. The rest is so where the engine stood before, and the link was up if DET was 3; the last, where an
-- awaited link had CR clear and DRQ set.
pub record IsClearAndUpIfStoppedUnlessPlugEvents (port : ℕ) (old new : Device) : Type 0 where
  pub no_cause_is_set : (place : ℕ) → place < 32 → (new.port port).is place ≡ false
  pub serr_shows_only_new_plugs : IsStoppedAndUpForStartIfDet3 (old.port port) → SerrShowsOnlyNewPlugs port old new
  pub no_link_is_due : NoDiskComes port old new → IsStoppedAndUpForStartIfDet3 (old.port port)
      → (new.port port).link_due ≡ false
  pub link_is_up : NoPlugEvents port old new → IsStoppedAndUpForStartIfDet3 (old.port port)
      → IsUpForStart (new.port port)
  pub is_clean_to_start : WhileLinkAwaitedCrIsClearAndDrqSet (old.port port)
      → bit (new.port port).notes.last_tfd 3 ≡ false
      → IsCleanToStart (new.port port)

-- Each bit of PxSERR and PxIS was cleared, and PxTFD was read with this value. The port receives FISes still; nothing
-- of before is told, nor would be at the next start; and what was read last of PxSSTS is as it was.
pub record ClearsErrorState (port : Port) (shown : ℕ) (old new : Device) : Type 0 where
  pub cleared : Device
  pub clears : ClearsErrors port old cleared
  pub reads : Reads (Px port Tfd) shown cleared new
  pub receives : IsStoppedReceiving port.0 (new.port port.0)
  pub last_tfd_is : (new.port port.0).notes.last_tfd ≡ shown
  pub last_ssts_is_kept : (new.port port.0).notes.last_ssts ≡ (old.port port.0).notes.last_ssts
  pub link_wait_count_is_kept : (new.port port.0).notes.link_wait_count ≡ (old.port port.0).notes.link_wait_count
  pub no_cause_is_set : (place : ℕ) → place < 32 → (new.port port.0).is place ≡ false
  pub serr_shows_only_new_plugs : SerrShowsOnlyNewPlugs port.0 old new
  pub is_clean_to_start : IsCleanToStart (new.port port.0)

-- the signature that was read last is the one that the port shows
abbrev pub LastSignatureIsShown : DevicePort → Type 0
LastSignatureIsShown p = p.notes.last_sig ≡ p.sig

-- ---- what the calls do that await an engine

-- The port was stopped: CR fell, as was read after ST was cleared.
pub record PortStops (port : Port) (old new : Device) : Type 0 where
  pub is_simulated : IsSimulatedAlong (Stops port) (ReadsPortOrWrites IsCommandRegister port) AnySlotStates old new
  pub stopped : IsStopped (new.port port.0)

-- The port was to stop, and CR didn't fall in 64 readings, the last of the accesses.
pub record FailsToStopPort (port : Port) (old new : Device) : Type 0 where
  pub is_simulated : IsSimulatedAlong (FailsToStop port) (ReadsPortOrWrites IsCommandRegister port) AnySlotStates old
      new
  pub stuck_is_backed : BacksFault EngineStuck (new.port port.0).notes

-- A stopped port receives FISes, with its areas in their places: FR fell, as was read after FRE was cleared.
pub record BeginsReceiving (port : Port) (old new : Device) : Type 0 where
  pub is_simulated : IsSimulatedAlong (StopsReceiving port) (ReadsPortOrWrites IsCmdOrBaseRegister port) AnySlotStates
      old new
  pub receives : IsStoppedReceiving port.0 (new.port port.0)

-- A stopped port was to receive FISes, and FR didn't fall in 64 readings, the last of the accesses. FRE is 0, and the
-- addresses are as they were.
pub record FailsToReceive (port : Port) (old new : Device) : Type 0 where
  pub is_simulated : IsSimulatedAlong (FailsToStopReceiving port) (ReadsPortOrWrites IsCmdOrBaseRegister port)
      AnySlotStates
      old new
  pub stuck_is_backed : BacksFault EngineStuck (new.port port.0).notes
  pub fre_is_clear : (new.port port.0).fre ≡ false
  pub bases_are_kept : (new.port port.0).bases ≡ (old.port port.0).bases
