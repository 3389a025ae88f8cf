-- Pages that a disk sends to the driver itself (ACS-3: IDENTIFY DEVICE, READ LOG EXT), and how they are asked for.
use Rattle.std.specs.Prelude.{ℕ, true, false, ◌≡◌, ◌≢◌, ◌≤◌, ◌++◌, List, All, length, Option, None, Some, IfSome}
use Rattle.ata_types.specs.declared.Port.{Port}
use Rattle.ata_types.specs.declared.limits.TheConstants.{MOST_READINGS}
use Rattle.ata_types.specs.declared.memory.TheConstants.{DRIVER_BYTES}
use Rattle.hba_regs.specs.Bits.{bit}
use Rattle.hba_regs.specs.declared.reg.Reg.TheVariants.{Px}
use Rattle.hba_regs.specs.declared.reg.PortReg.TheVariants.{Ci}
use Rattle.adapter.specs.Access.{Access}
use Rattle.adapter.specs.Access.Access.{Reading, Writing, Loading, Storing}
use Rattle.adapter.specs.Device.{Notes, Device}
use Rattle.adapter.specs.Device.Halt.{NotHalted}
use Rattle.adapter.specs.KeptBySteps.{KeepsControlsFlagsRise}
use Rattle.adapter.specs.Rules.{IsOn, HasPort}
use Rattle.adapter.specs.declared.command.Operation.{Operation}
use Rattle.adapter.specs.declared.command.Operation.TheVariants.{Identify, ReadLog}
use Rattle.refinement.specs.Fragments.{SomeMachineAgreesWith, SomeMachineAgrees, IsSimulated, IsSimulatedAlongChangingUses, GainsNoMove}
use Rattle.refinement.specs.Driver.{AllFree}
use Rattle.refinement.specs.PortFacts.{IsSlotClear, RecordsFaultsIfSt}
use Rattle.refinement.specs.MemoryLayout.{command_list_address, scratch_frame_address}
use Rattle.refinement.specs.Slots.{Own, SlotStates, client_operation_of, set_slot_state, PageCameSinceAndStandsInScratch}
use Rattle.command_table.specs.TableStores.{IsHeaderOrTableStore, IsSlotStateFree}
use Rattle.disk_page.specs.declared.Page.{Page}
use Rattle.disk_page.specs.declared.Page.TheVariants.{Identity, ErrorLog}

-- the command that brings the page
abbrev pub page_operation : Page → Operation
page_operation Identity = Identify
page_operation ErrorLog = ReadLog

-- The port runs with its command list in its place and no COMRESET being sent, and ST was set before now.
pub record PortMayAskForPage (port : ℕ) (d : Device) : Type 0 where
  pub st_is_set : (d.port port).st ≡ true
  pub list_is_in_place : (d.port port).bases.clb ≡ command_list_address port
  pub no_comreset : (d.port port).sctl_det ≡ 0
  pub st_set_in_tape : (d.port port).notes.st_set_at ≤ length d.tape

-- A page may be awaited: PxCI can be read, and PxSCTL.DET is 0, so that its readings are counted.
pub record MayAwaitPage (port : Port) (d : Device) : Type 0 where
  pub adapter_is_on : IsOn d
  pub has_port : HasPort d port.0
  pub no_comreset : (d.port port.0).sctl_det ≡ 0

-- A page may be asked for: slot 0 of such a port is unused, and memory has the driver's areas.
pub record MayGetPageInUnusedSlot0 (port : Port) (d : Device) : Type 0 where
  pub adapter_is_on : IsOn d
  pub has_port : HasPort d port.0
  pub driver_memory_fits : DRIVER_BYTES ≤ d.memory_size
  pub machine_is_related : SomeMachineAgreesWith (IsSlotStateFree port.0 0) d
  pub may_ask : PortMayAskForPage port.0 d

-- all that readings noted is as it was, but for those of PxCI
abbrev pub SameButCiNotes : Notes → Notes → Type 0
SameButCiNotes old new = new ≡ record old { last_ci = new.last_ci; slot0_issued_count = new.slot0_issued_count }

-- It stores slot 0's header, with PRDBC zero, or its table, reads PxCI, writes it with bit 0 alone, or loads the page
-- from the scratch frame.
abbrev pub IsPxciOrSlot0PageMemoryAccess : Port → Access → Type 0
IsPxciOrSlot0PageMemoryAccess port (Reading r v) = r ≡ Px port Ci
IsPxciOrSlot0PageMemoryAccess port (Writing r v) = (r ≡ Px port Ci) × (v ≡ 1)
IsPxciOrSlot0PageMemoryAccess port (Loading at bytes) = (at ≡ scratch_frame_address port.0) × (length bytes ≡ 512)
IsPxciOrSlot0PageMemoryAccess port (Storing at bytes) = IsHeaderOrTableStore port.0 0 (Storing at bytes)

-- What asking leaves of the port: its controls and its addresses; every slot but slot 0, which has no command if it had
-- none; all that readings noted but of PxCI; the bits of PxSACT that were clear; and the record of its faults since ST
-- was set.
pub record LeavesPortWhileAsking (port : ℕ) (old new : Device) : Type 0 where
  pub controls_are_kept : KeepsControlsFlagsRise (old.port port) (new.port port)
  pub bases_are_kept : (new.port port).bases ≡ (old.port port).bases
  pub ci_stays_clear : (slot : ℕ) → slot ≢ 0 → (old.port port).ci slot ≡ false → (new.port port).ci slot ≡ false
  pub empty_slots_stay_empty : (slot : ℕ) → slot ≢ 0 → (old.port port).ci slot ≡ false
      → (old.port port).taken slot ≡ None
      → (new.port port).taken slot ≡ None
  pub sact_stays_clear : (slot : ℕ) → (old.port port).sact slot ≡ false → (new.port port).sact slot ≡ false
  pub other_notes_are_kept : SameButCiNotes (old.port port).notes (new.port port).notes
  pub tape_is_not_shorter : length old.tape ≤ length new.tape
  pub faults_are_on_record : RecordsFaultsIfSt old.tape (old.port port) port
      → RecordsFaultsIfSt new.tape (new.port port) port

-- it reads PxCI, which shows slot 0's command
abbrev pub ShowsSlot0Issued : Port → Access → Type 0
ShowsSlot0Issued port (Reading r v) = (r ≡ Px port Ci) × (bit v 0 ≡ true)
ShowsSlot0Issued port access = ⊥

-- so many such readings, and nothing else
abbrev pub AreSlot0IssuedReadings : Port → ℕ → List Access → Type 0
AreSlot0IssuedReadings port count accesses = (length accesses ≡ count) × All (ShowsSlot0Issued port) accesses

-- 64 of them were made in a row. (The count that stands beside the device's state goes on from earlier calls: it goes
-- back at a write of PxSCTL alone.)
pub record WaitsForSlot0InVain (port : Port) (accesses : List Access) : Type 0 where
  pub before : List Access
  pub waits : List Access
  pub later : List Access
  pub accesses_are : accesses ≡ before ++ (waits ++ later)
  pub waits_are_vain : AreSlot0IssuedReadings port MOST_READINGS waits

-- What is said of the page: it is the last that the port's command of this operation has moved, the command came after
-- the tape was so long, and it is over.
pub record BringsLastPage (port : ℕ) (o : Operation) (since : ℕ) (bytes : List ℕ) (d : Device) : Type 0 where
  pub page_stands : PageCameSinceAndStandsInScratch d.memory d.tape port o since
  pub page_bytes_are : bytes ≡ page_stands.move.bytes.value
  pub slot_is_clear : IsSlotClear (d.port port) 0

-- The page came: slot 0 isn't used any more. Or 64 readings of PxCI showed its bit, as the accesses tell: then the
-- command may be in slot 0 still.
abbrev pub ReadsPageOrWaitsInVain : Port → Operation → Option (List ℕ) → Device → Device → Type 0
ReadsPageOrWaitsInVain port o (Some bytes) old new = BringsLastPage port.0 o (length old.tape) bytes new
    × IsSimulated (IsPxciOrSlot0PageMemoryAccess port) (IsSlotStateFree port.0 0) old new
ReadsPageOrWaitsInVain port o None old new = ((new.port port.0).notes.slot0_issued_count ≡ MOST_READINGS)
    × IsSimulatedAlongChangingUses (WaitsForSlot0InVain port) (IsPxciOrSlot0PageMemoryAccess port)
    (IsSlotStateFree port.0 0)
    (λ uses. set_slot_state uses port.0 0 (Own o)) old new

-- Some machine agrees with the slots used as they were; or with the command in slot 0.
abbrev pub MachineAgreesAfterPage : Port → Operation → Option (List ℕ) → SlotStates → Device → Type 0
MachineAgreesAfterPage port o (Some bytes) uses new = SomeMachineAgrees uses new
MachineAgreesAfterPage port o None uses new = SomeMachineAgrees (set_slot_state uses port.0 0 (Own o)) new

-- The page was asked for, and came or didn't. The port is left as asking leaves it. Where no slot was used, no fault
-- halts the port once a page has come; and no page of another command comes.
pub record GetsPageOrWaitsInVain (port : Port) (page : Page) (result : Option (List ℕ))
    (old new : Device) : Type 0 where
  pub leaves_running : LeavesPortWhileAsking port.0 old new
  pub agrees : (uses : SlotStates) → IsSlotStateFree port.0 0 uses → SomeMachineAgrees uses old
      → MachineAgreesAfterPage port (page_operation page) result uses new
  pub reads : ReadsPageOrWaitsInVain port (page_operation page) result old new
  pub page_ends_halt : IfSome result (λ _. SomeMachineAgreesWith (λ uses. AllFree uses port.0) old
      → (new.port port.0).halt ≡ NotHalted)
  pub no_other_page_moves : (o : Operation) → client_operation_of o ≡ None → o ≢ page_operation page
      → GainsNoMove port.0 o old new
