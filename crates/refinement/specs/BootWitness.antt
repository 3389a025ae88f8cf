-- A port that is brought up, access by access (this project's own).
use Rattle.std.specs.Prelude.{false}
use Rattle.hba_regs.specs.declared.reg.Reg.TheVariants.{Px}
use Rattle.hba_regs.specs.declared.reg.PortReg.TheVariants.{Is, Cmd, Tfd, Ssts, Sctl, Serr}
use Rattle.adapter.specs.Access.{Reads, Writes}
use Rattle.adapter.specs.Device.{DevicePort, Device}
use Rattle.adapter.specs.FirstRead.{first_read_device, empty_port, reading_port}
use Rattle.adapter.specs.Memory.{changed}
use Rattle.adapter.specs.Rules.{MayStart, MayWrite, IsStable}
use Rattle.refinement.specs.Relation.{port_at}
use Rattle.refinement.specs.PortFacts.{RunsWell}

-- Port 0 receives FISes and has a disk in, without a link as yet; an adapter with such a port.
abbrev pub waking_port : DevicePort
waking_port = record reading_port {
  st = false;
  cr = false;
  tfd = 0x7f;
  sig = 0xffffffff;
  ssts_det = 0;
  ci = λ _. false;
  fresh = false;
}

-- The example device while its link comes up.
abbrev pub waking_device : Device
waking_device = record first_read_device { port = changed (λ _. empty_port) 0 waking_port }

-- There such accesses may give these values: COMRESET is sent and ended, PxSSTS is read with a device, PxSERR and PxIS
-- are cleared, PxTFD is read idle, so that ST may be set, and is, and PxIS is read with no cause. Each write is
-- permitted when it is made, whatever the device does first. The port runs well then.
pub record BootWitness : Type 0 where
  pub sent : Device
  pub may_send : IsStable (MayWrite (Px (port_at 0) Sctl) 1) waking_device
  pub sends : Writes (Px (port_at 0) Sctl) 1 waking_device sent
  pub released : Device
  pub may_release : IsStable (MayWrite (Px (port_at 0) Sctl) 0) sent
  pub releases : Writes (Px (port_at 0) Sctl) 0 sent released
  pub linked : Device
  pub links : Reads (Px (port_at 0) Ssts) 3 released linked
  pub cleared : Device
  pub may_clear : IsStable (MayWrite (Px (port_at 0) Serr) 0xffffffff) linked
  pub clears : Writes (Px (port_at 0) Serr) 0xffffffff linked cleared
  pub quieted : Device
  pub may_quiet : IsStable (MayWrite (Px (port_at 0) Is) 0xffffffff) cleared
  pub quiets : Writes (Px (port_at 0) Is) 0xffffffff cleared quieted
  pub ready : Device
  pub tfd_is_read_idle : Reads (Px (port_at 0) Tfd) 0x77 quieted ready
  pub port_may_start : MayStart (ready.port 0)
  pub started : Device
  pub may_start : IsStable (MayWrite (Px (port_at 0) Cmd) 0x11) ready
  pub starts : Writes (Px (port_at 0) Cmd) 0x11 ready started
  pub found : Device
  pub pxis_is_read_clear : Reads (Px (port_at 0) Is) 0 started found
  pub port_runs_well : RunsWell (found.port 0)
