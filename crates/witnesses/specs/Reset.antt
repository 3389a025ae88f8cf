-- A history in which a reset of the adapter ends, and both ports are booted (this project's own; AHCI 1.3.1, 10.4.3,
-- 10.1.2 and 10.4.2).
use Rattle.std.specs.Prelude.{ℕ, ◌≡◌, ◌++◌, List, [], ◌∷◌, Some, None, Ok}
use Rattle.ata_types.specs.declared.Port.{Port}
use Rattle.ata_types.specs.declared.PortState.TheVariants.{Unfit}
use Rattle.ata_types.specs.declared.request.Frame.{Frame}
use Rattle.ata_types.specs.declared.request.Outcome.TheVariants.{Unplugged}
use Rattle.ata_types.specs.declared.request.Request.{Request}
use Rattle.hba_regs.specs.declared.reg.PortReg.TheVariants.{Clb, Clbu, Fb, Fbu, Is, Cmd, Tfd, Sig, Ssts, Sctl, Serr}
use Rattle.hba_regs.specs.declared.reg.Reg.TheVariants.{Ghc, Px}
use Rattle.adapter.specs.Access.{Access, DoesAll}
use Rattle.adapter.specs.Access.Access.{Reading, Writing}
use Rattle.adapter.specs.Device.{Device}
use Rattle.adapter.specs.declared.access.DeviceStep.{DeviceStep}
use Rattle.refinement.specs.Relation.{port_at}
use Rattle.refinement.specs.MemoryLayout.{command_list_address, received_fis_address}
use Rattle.refinement.specs.ReadWitness.{first_id}
use Rattle.block_machine.specs.Events.{Submit, Reset, Submitted, WasReset}
use Rattle.block_machine.specs.Histories.{JointState, JointEvent, joint_state_after}
use Rattle.identify.specs.declared.wanted.Wanted.TheVariants.{Any}
use Rattle.driver_history.specs.Histories.{IsDriverHistory, PortCorresponds}
use Rattle.witnesses.specs.AllowedAccesses.{AreAllowed}

-- HR of GHC is set, and is read 0; then AE and IE are set
abbrev pub ended_reset_and_enable_accesses : List Access
ended_reset_and_enable_accesses = Writing Ghc 0x80000001 ∷ Reading Ghc 0 ∷ Writing Ghc 0x80000002 ∷ []

-- A stopped port gets its places, FRE, and COMRESET; the device shows, is idle, and has another signature than an ATA
-- disk's.
abbrev pub boot_accesses : ℕ → List Access
boot_accesses port =
    Reading (Px (port_at port) Cmd) 0 ∷ Writing (Px (port_at port) Clb) (command_list_address port)
    ∷ Writing (Px (port_at port) Clbu) 0
    ∷ Writing (Px (port_at port) Fb) (received_fis_address port) ∷ Writing (Px (port_at port) Fbu) 0
    ∷ Reading (Px (port_at port) Cmd) 0
    ∷ Writing (Px (port_at port) Cmd) 0x10 ∷ Writing (Px (port_at port) Sctl) 1 ∷ Writing (Px (port_at port) Sctl) 0
    ∷ Reading (Px (port_at port) Ssts) 3 ∷ Writing (Px (port_at port) Serr) 0xffffffff ∷ Writing (Px (port_at port) Is)
    0xffffffff
    ∷ Reading (Px (port_at port) Tfd) 0x77 ∷ Reading (Px (port_at port) Sig) 0xeb140101 ∷ []

-- all of them, one after another
abbrev pub reset_and_boot_accesses : List Access
reset_and_boot_accesses = ended_reset_and_enable_accesses ++ (boot_accesses 0 ++ boot_accesses 1)

-- A read of port 0 is accepted and issued, and its frame is lent. Then the adapter is reset, and the reset ends: each
-- port is booted, and no ATA disk is found. So both are unfit, the read is answered Unplugged, and its frame is given
-- back. The reset's accesses keep to the adapter's rules. Each port's part in both calls is done.
pub record ResetIsAHistory : Type 0 where
  pub initial_state : JointState Device
  pub submit : JointEvent Device DeviceStep
  pub asked : Request
  pub submits : (submit.event.call ≡ Submit asked) × (submit.event.result ≡ Submitted (Ok first_id))
  pub frame : Frame
  pub frames_are : asked.frames.items ≡ frame ∷ []
  pub lent : (joint_state_after initial_state (submit ∷ [])).abstract.machine.lent frame ≡ Some first_id
  pub reset : JointEvent Device DeviceStep
  pub resets : (reset.event.call ≡ Reset)
      × (reset.event.result ≡ WasReset (Some (record { id = first_id; client = asked.client; outcome = Unplugged }
      ∷ [])))
  pub both_become_unfit : (reset.event.ports.state (port_at 0) ≡ Unfit 8)
      × (reset.event.ports.state (port_at 1) ≡ Unfit 8)
  pub frame_is_given_back : (joint_state_after initial_state (reset ∷ submit ∷ [])).abstract.machine.lent frame ≡ None
  pub reset_makes_accesses : DoesAll reset_and_boot_accesses submit.device reset.device
  pub accesses_are_allowed : AreAllowed reset_and_boot_accesses submit.device reset.device reset_makes_accesses
  pub history : IsDriverHistory (Any ∷ Any ∷ []) initial_state (reset ∷ submit ∷ [])
  pub accesses : history.2.accesses ≡ reset_and_boot_accesses
  pub submit_corresponds : (port : Port) → PortCorresponds initial_state submit history.0.2.accesses port
  pub reset_corresponds : (port : Port) → PortCorresponds (joint_state_after initial_state (submit ∷ [])) reset
      history.2.accesses port
