-- What a driver learns of the device from its readings (this project's own).
use Rattle.std.specs.Prelude.{ℕ, true, false, ◌≡◌, ◌≢◌, ◌⊎◌, ◌+◌, ◌*◌, ◌++◌, ◌<◌, ◌≤◌, List, ◌∷◌, None, All, Contains, length, drop}
use Rattle.ata_types.specs.declared.Port.{Port}
use Rattle.ata_types.specs.declared.memory.TheConstants.{FRAME_BYTES}
use Rattle.ata_types.specs.declared.request.Frame.{Frame}
use Rattle.ata_types.specs.declared.request.RequestId.{RequestId}
use Rattle.hba_regs.specs.Bits.{bit}
use Rattle.hba_regs.specs.declared.reg.Reg.{Reg}
use Rattle.hba_regs.specs.declared.reg.Reg.TheVariants.{Px}
use Rattle.hba_regs.specs.declared.reg.PortReg.TheVariants.{Is, Cmd, Sctl, Serr}
use Rattle.adapter.specs.Device.{Halt, DevicePort, Device}
use Rattle.adapter.specs.Device.Halt.{NotHalted, HaltedByPlain, HaltedByQueued}
use Rattle.adapter.specs.Rules.{InUse}
use Rattle.adapter.specs.Rules as rules
use Rattle.adapter.specs.declared.command.Operation.{Operation}
use Rattle.adapter.specs.declared.tape.Entry.{Entry}
use Rattle.adapter.specs.declared.tape.Entry.TheVariants as entry
use Rattle.adapter.specs.declared.tape.Fault as tape_fault
use Rattle.block_machine.specs.State.{Pending, Machine}
use Rattle.block_machine.specs.Steps.{IsIssuedOrKept, AllTouched, NoneKept}
use Rattle.refinement.specs.Simulation.{SimulatesSteps}
use Rattle.adapter.specs.OneCommand.{SlotHasNoCommand}
use Rattle.refinement.specs.Slots.{Serves, SlotStates, PageCameSinceAndStandsInScratch}

-- ---- an engine that has stopped

-- ST and CR are 0, no command is issued, and none is taken (AHCI 1.3.1, 10.1.2).
pub record IsEngineStopped (p : DevicePort) : Type 0 where
  pub st_is_clear : p.st ≡ false
  pub cr_is_clear : p.cr ≡ false
  pub no_command_is_issued : (slot : ℕ) → p.ci slot ≡ false
  pub no_command_is_taken : (slot : ℕ) → p.taken slot ≡ None

-- A port after a reset of its adapter: halted, with no bit of SACT, and the engine that receives FISes is stopped, too
-- (AHCI 1.3.1, 10.4.3).
pub record IsQuiescentPort (p : DevicePort) : Type 0 where
  pub engine_is_stopped : IsEngineStopped p
  pub sact_is_clear : (slot : ℕ) → p.sact slot ≡ false
  pub fre_is_clear : p.fre ≡ false
  pub fr_is_clear : p.fr ≡ false

-- ---- commands that are over

-- A request of the port has ended, with each of its sectors touched since its last issue. If no kept request is on the
-- port, it is in the book.
pub record EndedOnPort (m : Machine) (port : Port) (id : RequestId) : Type 0 where
  pub pending : Pending
  pub may_still_move : IsIssuedOrKept m pending
  pub id_is : pending.request.id ≡ id
  pub port_is : pending.request.port ≡ port
  pub ended : pending.ended ≡ true
  pub all_are_touched : AllTouched pending
  pub in_book_if_none_kept : NoneKept m port → Contains m.book pending

-- the slot's command is over, and its bit of SACT is clear
pub record IsSlotClear (p : DevicePort) (slot : ℕ) : Type 0 where
  pub over : SlotHasNoCommand p slot
  pub sact_is_clear : p.sact slot ≡ false

-- What CI shows of a command of the driver's own: the machine follows, and the command has ended and has brought its
-- page since ST was set.
pub record FollowsAndHasPageSinceStSet (uses : SlotStates) (m : Machine) (port : ℕ) (o : Operation)
    (old new : Device) : Type 0 where
  pub simulates_steps : SimulatesSteps uses m old new
  pub slot_is_clear : IsSlotClear (new.port port) 0
  pub page_since_st_set_is_in_scratch : PageCameSinceAndStandsInScratch new.memory new.tape port o
      (new.port port).notes.st_set_at

-- ---- frames that the device leaves alone

-- The device uses no byte of the frame: none is of a header, a table or a place of a command that is issued or taken,
-- or of a received FIS area that is in use.
abbrev pub DeviceOwnsNoByteOfFrame : Frame → Device → Type 0
DeviceOwnsNoByteOfFrame frame d = (port slot at : ℕ) → FRAME_BYTES * frame.0 ≤ at
    → at < FRAME_BYTES * frame.0 + FRAME_BYTES
    → rules.DeviceOwns d (d.port port) slot at → ⊥

-- the commands of the request of this id are over, in each slot
abbrev pub CommandsAreOver : SlotStates → Device → RequestId → Type 0
CommandsAreOver uses d id = (port slot : ℕ) → uses port slot ≡ Serves id → SlotHasNoCommand (d.port port) slot

-- ---- a port on which nothing goes wrong

-- No bit of PxSERR or PxIS shows trouble: neither N and X, nor IFS, HBDS, HBFS and TFES, which are 27 to 30.
pub record ShowsNoTrouble (p : DevicePort) : Type 0 where
  pub serr_n_is_clear : p.serr_n ≡ false
  pub serr_x_is_clear : p.serr_x ≡ false
  pub bits_27_to_30_are_clear : (place : ℕ) → 27 ≤ place → place ≤ 30 → p.is place ≡ false

-- The port runs, its disk is there with its link up and no other link due, no error has stopped it, and no bit shows
-- one.
pub record RunsWell (p : DevicePort) : Type 0 where
  pub st_is_set : p.st ≡ true
  pub cr_is_set : p.cr ≡ true
  pub det_is_3 : p.ssts_det ≡ 3
  pub present : p.present ≡ true
  pub fresh : p.fresh ≡ true
  pub no_link_is_due : p.link_due ≡ false
  pub is_not_halted : p.halt ≡ NotHalted
  pub is_not_broken : p.broken ≡ false
  pub shows_no_trouble : ShowsNoTrouble p

-- a fault or a fatal error of the port, or its disk goes or comes
abbrev pub IsDisturbance : ℕ → Entry → Type 0
IsDisturbance port (entry.Fault fault) = fault.port.0 ≡ port
IsDisturbance port (entry.Fatal at) = at.0 ≡ port
IsDisturbance port (entry.Unplug at) = at.0 ≡ port
IsDisturbance port (entry.Plug at name) = at.0 ≡ port
IsDisturbance port _ = ⊥

-- the tape gained no disturbance of the port
pub record Undisturbed (port : ℕ) (old new : Device) : Type 0 where
  pub new_entries : List Entry
  pub tape_is : new.tape ≡ old.tape ++ new_entries
  pub no_disturbance : All (λ e. IsDisturbance port e → ⊥) new_entries

-- A value of PxIS shows none: neither PCS, which shows X, and PRCS, which shows N, nor those four (AHCI 1.3.1, 3.3.5).
pub record PxisValueTellsNoTrouble (v : ℕ) : Type 0 where
  pub pcs_is_clear : bit v 6 ≡ false
  pub prcs_is_clear : bit v 22 ≡ false
  pub bits_27_to_30_are_clear : (place : ℕ) → 27 ≤ place → place ≤ 30 → bit v place ≡ false

-- A write clears no bit that shows the port's trouble.
pub record ClearsNoTrouble (port : Port) (r : Reg) (v : ℕ) : Type 0 where
  pub pxis_trouble_is_kept : r ≡ Px port Is → (place : ℕ) → 27 ≤ place → place ≤ 30 → bit v place ≡ false
  pub serr_trouble_is_kept : r ≡ Px port Serr → (bit v 16 ≡ false) × (bit v 26 ≡ false)

-- ---- faults since ST was set

-- a fault has halted the port, by a plain or by a queued command
abbrev pub IsHaltedByPlainOrQueued : Halt → Type 0
IsHaltedByPlainOrQueued halt = (halt ≡ HaltedByPlain) ⊎ (halt ≡ HaltedByQueued)

-- the entry is a fault of the port
abbrev pub IsFaultOf : ℕ → Entry → Type 0
IsFaultOf port (entry.Fault fault) = fault.port.0 ≡ port
IsFaultOf port _ = ⊥

-- The task file shows the port's last fault among these entries: the status in its low byte, the error in the next
-- (AHCI 1.3.1, 3.3.8). The slot of the command that failed is still in use.
pub record ShowsFault (entries : List Entry) (p : DevicePort) (port : ℕ) : Type 0 where
  pub before : List Entry
  pub fault : tape_fault.Fault
  pub later : List Entry
  pub entries_are_split : entries ≡ before ++ entry.Fault fault ∷ later
  pub port_is : fault.port.0 ≡ port
  pub no_later_fault : All (λ e. IsFaultOf port e → ⊥) later
  pub bytes_fit : (fault.status < 256) × (fault.error < 256)
  pub tfd_is : p.tfd ≡ fault.status + 256 * fault.error
  pub slot_is_issued_or_taken : InUse p fault.slot.0

-- What the tape has of a port whose ST is 1. TFES, bit 30 of PxIS, shows that a fault has halted the port, and then the
-- task file shows the last one since ST was set. No link is due, so none comes up and ends the halt. The halt counts
-- here, which lasts until the disk goes on, because the driver clears TFES before it reads PxTFD.
pub record RecordsFaults (tape : List Entry) (p : DevicePort) (port : ℕ) : Type 0 where
  pub st_set_is_on_tape : p.notes.st_set_at ≤ length tape
  pub no_link_is_due : p.link_due ≡ false
  pub tfes_tells_fault : p.is 30 ≡ true → IsHaltedByPlainOrQueued p.halt
  pub shows_last_fault : IsHaltedByPlainOrQueued p.halt → ShowsFault (drop p.notes.st_set_at tape) p port

-- so it is while ST is 1
abbrev pub RecordsFaultsIfSt : List Entry → DevicePort → ℕ → Type 0
RecordsFaultsIfSt tape p port = p.st ≡ true → RecordsFaults tape p port

-- From COMRESET until the link comes up the engine stands, and the task file shows DRQ, bit 3.
abbrev pub WhileLinkAwaitedCrIsClearAndDrqSet : DevicePort → Type 0
WhileLinkAwaitedCrIsClearAndDrqSet p = (p.link_due ≡ true) ⊎ (p.sctl_det ≡ 1) → (p.cr ≡ false) × (bit p.tfd 3 ≡ true)

-- the engine stands, and TFES is clear
abbrev pub CrAndTfesAreClear : DevicePort → Type 0
CrAndTfesAreClear p = (p.cr ≡ false) × (p.is 30 ≡ false)

-- Nothing of the past would be taken for news of the next start: the engine stands, TFES is clear, and no link is due.
pub record IsCleanToStart (p : DevicePort) : Type 0 where
  pub is_stopped_tfes_clear : CrAndTfesAreClear p
  pub no_link_is_due : p.link_due ≡ false
  pub no_comreset : p.sctl_det ≢ 1

-- What a write has to keep beside the register's rules: ST is set on a quiet port, and SCTL is written while the engine
-- stands.
abbrev pub StartsCleanAndWritesSctlStopped : Reg → ℕ → Device → Type 0
StartsCleanAndWritesSctlStopped (Px port Cmd) v d = bit v 0 ≡ true → ((d.port port.0).st ≡ true)
    ⊎ IsCleanToStart (d.port port.0)
StartsCleanAndWritesSctlStopped (Px port Sctl) v d = (d.port port.0).cr ≡ false
StartsCleanAndWritesSctlStopped _ v d = Unit {0}
