-- Where the registers stand, in bytes from the adapter's first.
use Rattle.std.specs.Prelude.{ℕ, ◌+◌, ◌*◌}
use Rattle.hba_regs.specs.declared.reg.PortReg.{PortReg}
use Rattle.hba_regs.specs.declared.reg.PortReg.TheVariants as port
use Rattle.hba_regs.specs.declared.reg.Reg.{Reg}
use Rattle.hba_regs.specs.declared.reg.Reg.TheVariants.{Cap, Ghc, Is, Pi, Vs, Cap2, Bohc, Px}

-- a port's register among those of its port (AHCI 1.3.1, 3.3)
abbrev pub port_register_offset : PortReg → ℕ
port_register_offset port.Clb = 0x00
port_register_offset port.Clbu = 0x04
port_register_offset port.Fb = 0x08
port_register_offset port.Fbu = 0x0c
port_register_offset port.Is = 0x10
port_register_offset port.Ie = 0x14
port_register_offset port.Cmd = 0x18
port_register_offset port.Tfd = 0x20
port_register_offset port.Sig = 0x24
port_register_offset port.Ssts = 0x28
port_register_offset port.Sctl = 0x2c
port_register_offset port.Serr = 0x30
port_register_offset port.Sact = 0x34
port_register_offset port.Ci = 0x38

-- a register of the adapter (AHCI 1.3.1, 3.1); a port's registers have 80h bytes, and port 0's begin at 100h
abbrev pub offset_of : Reg → ℕ
offset_of Cap = 0x00
offset_of Ghc = 0x04
offset_of Is = 0x08
offset_of Pi = 0x0c
offset_of Vs = 0x10
offset_of Cap2 = 0x24
offset_of Bohc = 0x28
offset_of (Px p r) = 0x100 + 0x80 * p.0 + port_register_offset r
