-- What accesses tell of a port's two engines: the one that works on the command list (ST and CR of PxCMD), and the one
-- that receives FISes (FRE and FR; AHCI 1.3.1, 3.3.7, 10.3.1 and 10.3.2).
use Rattle.std.specs.Prelude.{ℕ, true, false, ◌≡◌, ◌⊎◌, ◌++◌, List, ◌∷◌, All, length}
use Rattle.ata_types.specs.declared.Port.{Port}
use Rattle.ata_types.specs.declared.limits.TheConstants.{MOST_READINGS}
use Rattle.hba_regs.specs.Bits.{bit}
use Rattle.hba_regs.specs.declared.reg.PortReg.TheVariants.{Cmd}
use Rattle.hba_regs.specs.declared.reg.Reg.TheVariants.{Px}
use Rattle.adapter.specs.Access.{Access}
use Rattle.adapter.specs.Access.Access.{Reading, Writing}
use Rattle.refinement.specs.PreservedParts.{DoesNotWrite}

-- An engine fell: the bit that starts it was written 0, and the bit that shows it running was read 0 after that, with
-- PxCMD not written between.
pub record EngineFalls (start running : ℕ) (port : Port) (accesses : List Access) : Type 0 where
  pub before : List Access
  pub written_cmd : ℕ
  pub between : List Access
  pub read_cmd : ℕ
  pub later : List Access
  pub accesses_are : accesses ≡ before ++ (Writing (Px port Cmd) written_cmd
      ∷ (between ++ (Reading (Px port Cmd) read_cmd ∷ later)))
  pub start_is_cleared : bit written_cmd start ≡ false
  pub cmd_is_unwritten : All (DoesNotWrite (Px port Cmd)) between
  pub stop_is_shown : bit read_cmd running ≡ false

-- ST was cleared, and CR was read 0
abbrev pub Stops : Port → List Access → Type 0
Stops port accesses = EngineFalls 0 15 port accesses

-- FRE was cleared, and FR was read 0
abbrev pub StopsReceiving : Port → List Access → Type 0
StopsReceiving port accesses = EngineFalls 4 14 port accesses

-- both engines fell
abbrev pub StopsEachEngine : Port → List Access → Type 0
StopsEachEngine port accesses = Stops port accesses × StopsReceiving port accesses

-- a value of PxCMD shows that an engine was cleared, and runs still
abbrev pub ShowsStillRunning : ℕ → ℕ → ℕ → Type 0
ShowsStillRunning start running v = (bit v start ≡ false) × (bit v running ≡ true)

-- either engine: CR is 1 while ST is 0, or FR while FRE is 0
abbrev pub ShowsEngineStillRunning : ℕ → Type 0
ShowsEngineStillRunning v = ShowsStillRunning 0 15 v ⊎ ShowsStillRunning 4 14 v

-- it reads PxCMD, whose value shows this
abbrev pub ReadsPortCmd : (ℕ → Type 0) → Port → Access → Type 0
ReadsPortCmd Shown port (Reading r v) = (r ≡ Px port Cmd) × Shown v
ReadsPortCmd Shown port access = ⊥

-- An engine is awaited: the bit that starts it was written 0, and so many readings of PxCMD since, and nothing else,
-- showed that it runs still.
pub record AwaitsEngineStop (start running : ℕ) (port : Port) (count : ℕ) (accesses : List Access) : Type 0 where
  pub before : List Access
  pub written_cmd : ℕ
  pub stuck_readings : List Access
  pub accesses_are : accesses ≡ before ++ (Writing (Px port Cmd) written_cmd ∷ stuck_readings)
  pub start_is_cleared : bit written_cmd start ≡ false
  pub count_is : length stuck_readings ≡ count
  pub all_show_running : All (ReadsPortCmd (ShowsStillRunning start running) port) stuck_readings

-- ST was cleared, and then 64 readings, the last of the accesses, showed CR still
abbrev pub FailsToStop : Port → List Access → Type 0
FailsToStop port accesses = AwaitsEngineStop 0 15 port MOST_READINGS accesses

-- FRE was cleared, and then they showed FR still
abbrev pub FailsToStopReceiving : Port → List Access → Type 0
FailsToStopReceiving port accesses = AwaitsEngineStop 4 14 port MOST_READINGS accesses

-- 64 readings in a row showed an engine that was cleared and runs still.
pub record EngineSticks (port : Port) (accesses : List Access) : Type 0 where
  pub before : List Access
  pub stuck_readings : List Access
  pub later : List Access
  pub accesses_are : accesses ≡ before ++ (stuck_readings ++ later)
  pub count_is : length stuck_readings ≡ MOST_READINGS
  pub all_show_still_running : All (ReadsPortCmd ShowsEngineStillRunning port) stuck_readings
