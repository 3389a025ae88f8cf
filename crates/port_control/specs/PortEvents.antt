-- A look at a port: what it reads and acknowledges, and what that tells (AHCI 1.3.1, 3.1.3, 3.3.5, 3.3.10, 5.5.3 and
-- 6.2).
use Rattle.std.specs.Prelude.{ℕ, ◌≡◌, ◌⊎◌, ◌%◌, ◌||◌, ◌==◌, not, if◌then◌else◌}
use Rattle.ata_types.specs.declared.Port.{Port}
use Rattle.hba_regs.specs.Bits.{bit}
use Rattle.hba_regs.specs.declared.reg.Reg.TheVariants as reg
use Rattle.hba_regs.specs.declared.reg.Reg.TheVariants.{Px}
use Rattle.hba_regs.specs.declared.reg.PortReg.TheVariants.{Is, Ssts}
use Rattle.adapter.specs.Access.{Access, Reads, Writes}
use Rattle.adapter.specs.Access.Access.{Reading, Writing}
use Rattle.adapter.specs.Device.{Device}
use Rattle.refinement.specs.Fragments.{IsSoleBit}
use Rattle.port_control.specs.declared.events.PortEvent.{PortEvent}
use Rattle.port_control.specs.declared.events.PortEvent.TheVariants.{LinkChanged, FatalError, TaskFileError, NoEvent}

-- What PxIS and PxSSTS tell, first things first: the device went or came, or isn't there (PCS, PRCS, or DET other than
-- 3); an error that the driver ends with a boot (HBDS, HBFS or IFS); a command that failed (TFES); or none of these.
abbrev pub port_event_of : ℕ → ℕ → PortEvent
port_event_of causes status =
    if bit causes 6 || bit causes 22 || not (status % 16 == 3) then LinkChanged
    else (if bit causes 28 || bit causes 29 || bit causes 27 then FatalError
    else (if bit causes 30 then TaskFileError else NoEvent))

-- It reads PxIS or PxSSTS, or it writes PxIS, or IS with the port's bit alone.
abbrev pub IsPxisSstsOrOwnIsAccess : Port → Access → Type 0
IsPxisSstsOrOwnIsAccess port (Reading r v) = (r ≡ Px port Is) ⊎ (r ≡ Px port Ssts)
IsPxisSstsOrOwnIsAccess port (Writing r v) = (r ≡ Px port Is) ⊎ ((r ≡ reg.Is) × IsSoleBit port.0 v)
IsPxisSstsOrOwnIsAccess port access = ⊥

-- PxIS is read and written with what was read; then the port's bit of IS, alone, is written; then PxSSTS is read. The
-- answer is what the two readings tell.
pub record TakesEvent (port : Port) (result : PortEvent) (old new : Device) : Type 0 where
  pub causes : ℕ
  pub after_is_read : Device
  pub reads : Reads (Px port Is) causes old after_is_read
  pub cleared : Device
  pub clears : Writes (Px port Is) causes after_is_read cleared
  pub port_mask : ℕ
  pub is_sole_bit : IsSoleBit port.0 port_mask
  pub acknowledged : Device
  pub acknowledges : Writes reg.Is port_mask cleared acknowledged
  pub status : ℕ
  pub reads_status : Reads (Px port Ssts) status acknowledged new
  pub result_is : result ≡ port_event_of causes status
