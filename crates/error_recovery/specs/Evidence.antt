-- What stands behind a fault that is told, and what a port shows of trouble (this project's own; log 10h: ACS-3, A.14).
use Rattle.std.specs.Prelude.{ℕ, true, ◌≡◌, ◌+◌, ◌≤◌, ◌++◌, List, ◌∷◌, All, Contains, drop, length}
use Rattle.ata_types.specs.declared.Port.{Port}
use Rattle.hba_regs.specs.declared.reg.PortReg.TheVariants.{Cmd}
use Rattle.hba_regs.specs.declared.reg.Reg.TheVariants.{Px}
use Rattle.adapter.specs.Access.{Access, DoesAll}
use Rattle.adapter.specs.Device.{DevicePort, Device}
use Rattle.adapter.specs.declared.command.Operation.TheVariants.{ReadLog}
use Rattle.adapter.specs.declared.tape.Entry.{Entry}
use Rattle.adapter.specs.declared.tape.Entry.TheVariants as entry
use Rattle.adapter.specs.declared.tape.Fault as tape_fault
use Rattle.adapter.specs.declared.tape.Move as tape_move
use Rattle.refinement.specs.Errors.{IsFatalEntryOf}
use Rattle.refinement.specs.PortFacts.{IsFaultOf}
use Rattle.refinement.specs.PreservedParts.{IsPlugEvent, DoesNotWrite}
use Rattle.refinement.specs.Slots.{IsMove}

-- ---- evidence

-- A moment of the call up to which PxCMD of the port wasn't written.
pub record IsBeforeFirstCmdWrite (port : Port) (accesses : List Access) (old at new : Device) : Type 0 where
  pub early : List Access
  pub late : List Access
  pub accesses_are : accesses ≡ early ++ late
  pub cmd_is_unwritten : All (DoesNotWrite (Px port Cmd)) early
  pub does_early : DoesAll early old at
  pub does_late : DoesAll late at new

-- A fault of the port stands on the tape since ST was last set before the call, by a moment at which PxCMD hadn't been
-- written in it.
pub record HasFailed (port : Port) (accesses : List Access) (old new : Device) (fault : tape_fault.Fault) : Type 0 where
  pub device_before_stop : Device
  pub cmd_is_unwritten : IsBeforeFirstCmdWrite port accesses old device_before_stop new
  pub fault_is_told : Contains (drop (old.port port.0).notes.st_set_at device_before_stop.tape) (entry.Fault fault)
  pub port_is : fault.port.0 ≡ port.0

-- The last page of the log that the port's disk sent, after the tape was so long.
pub record BringsLastLogPage (port : Port) (old new : Device) (page : List ℕ) : Type 0 where
  pub new_entries : List Entry
  pub tape_grows : new.tape ≡ old.tape ++ new_entries
  pub before : List Entry
  pub move : tape_move.Move
  pub later : List Entry
  pub entries_are : new_entries ≡ before ++ entry.Move move ∷ later
  pub is_move : IsMove port.0 ReadLog (entry.Move move)
  pub no_later_page : All (λ e. IsMove port.0 ReadLog e → ⊥) later
  pub bytes_are : page ≡ move.bytes.value

-- ---- trouble

-- the tape has gained an entry of this kind since ST of the port was last set
pub record GainsSinceStart (Is : Entry → Type 0) (port : ℕ) (old new : Device) : Type 0 where
  pub before : List Entry
  pub entry : Entry
  pub later : List Entry
  pub tape_grows : new.tape ≡ old.tape ++ (before ++ entry ∷ later)
  pub is_of_kind : Is entry
  pub came_since_start : (new.port port).notes.st_set_at ≤ length old.tape + length before

-- IFS, HBDS or HBFS is set: an error of the interface or of the host's bus, which ST ends when it is set anew
pub record ShowsFatal (p : DevicePort) : Type 0 where
  pub place : ℕ
  pub from : 27 ≤ place
  pub to : place ≤ 29
  pub cause_is_set : p.is place ≡ true

-- What came since ST was set is shown: a fault by TFES, a fatal error by one of those three, and a disk that went or
-- came by N.
pub record HidesNoTrouble (port : ℕ) (old new : Device) : Type 0 where
  pub fault_is_shown : GainsSinceStart (IsFaultOf port) port old new → (new.port port).is 30 ≡ true
  pub fatal_is_shown : GainsSinceStart (IsFatalEntryOf port) port old new → ShowsFatal (new.port port)
  pub plug_is_shown : GainsSinceStart (IsPlugEvent port) port old new → (new.port port).serr_n ≡ true
