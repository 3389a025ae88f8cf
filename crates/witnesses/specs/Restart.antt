-- How a port with an issued read is given up and booted anew, when what it finds then is no ATA disk (this project's
-- own; AHCI 1.3.1, 10.1.2 and 10.4.2).
use Rattle.std.specs.Prelude.{◌++◌, List, [], ◌∷◌}
use Rattle.ata_types.specs.declared.Port.{Port}
use Rattle.hba_regs.specs.declared.reg.Reg.TheVariants.{Px}
use Rattle.hba_regs.specs.declared.reg.PortReg.TheVariants.{Clb, Clbu, Fb, Fbu, Is, Cmd, Tfd, Sig, Ssts, Sctl, Serr, Sact, Ci}
use Rattle.adapter.specs.Access.{Access}
use Rattle.adapter.specs.Access.Access.{Reading, Writing}
use Rattle.refinement.specs.Relation.{port_at}
use Rattle.block_machine.specs.Ports.{Evidence}

-- the masks show the read issued still
abbrev pub mask_accesses : List Access
mask_accesses = Reading (Px (port_at 0) Ci) 1 ∷ Reading (Px (port_at 0) Sact) 0 ∷ []

-- ST is cleared, and CR falls
abbrev pub stop_engine_accesses : List Access
stop_engine_accesses = Reading (Px (port_at 0) Cmd) 0xc011 ∷ Writing (Px (port_at 0) Cmd) 0xc010
    ∷ Reading (Px (port_at 0) Cmd) 0x4010 ∷ []

-- FRE is cleared; command list and received FIS area are put in their places; and FRE is set
abbrev pub base_address_accesses : List Access
base_address_accesses =
    Reading (Px (port_at 0) Cmd) 0x4010 ∷ Writing (Px (port_at 0) Cmd) 0x4000 ∷ Reading (Px (port_at 0) Cmd) 0
    ∷ Writing (Px (port_at 0) Clb) 0 ∷ Writing (Px (port_at 0) Clbu) 0 ∷ Writing (Px (port_at 0) Fb) 0x400
    ∷ Writing (Px (port_at 0) Fbu) 0
    ∷ Reading (Px (port_at 0) Cmd) 0 ∷ Writing (Px (port_at 0) Cmd) 0x10 ∷ []

-- COMRESET is sent; the device shows, is idle, and has another signature than an ATA disk's
abbrev pub comreset_accesses : List Access
comreset_accesses =
    Writing (Px (port_at 0) Sctl) 1 ∷ Writing (Px (port_at 0) Sctl) 0 ∷ Reading (Px (port_at 0) Ssts) 3
    ∷ Writing (Px (port_at 0) Serr) 0xffffffff ∷ Writing (Px (port_at 0) Is) 0xffffffff
    ∷ Reading (Px (port_at 0) Tfd) 0x77 ∷ Reading (Px (port_at 0) Sig) 0xeb140101 ∷ []

-- all of them, one after another
abbrev pub stop_and_comreset_accesses : List Access
stop_and_comreset_accesses = mask_accesses ++ (stop_engine_accesses ++ (base_address_accesses ++ comreset_accesses))

-- what is named: port 0 was stopped, and has lost its disk; and these ports have failed, each by a fatal error
abbrev pub port_0_lost_and_stopped_evidence : List Port → Evidence
port_0_lost_and_stopped_evidence failed = record {
  faults = [];
  lost = port_at 0 ∷ [];
  link_changed = [];
  showing_error = failed;
  showing_fatal_error = failed;
  stopped = port_at 0 ∷ [];
  stuck = [];
}
