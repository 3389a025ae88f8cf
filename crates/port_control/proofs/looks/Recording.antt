-- The faults of each port go on to be recorded while ports are served.
use Rattle.std.proofs.Common.{ℕ}
use Rattle.hba_regs.specs.declared.reg.PortReg.TheVariants.{Cmd, Sctl}
use Rattle.adapter.specs.Device.{Device}
use Rattle.refinement.specs.Relation.{port_at}
use Rattle.refinement.specs.Fragments.{IsDrivenBy}
use Rattle.refinement.specs.PortFacts.{RecordsFaultsIfSt}
use Rattle.port_control.specs.EventLaws.{Laws}
use Rattle.port_control.specs.ServiceAccesses.{WritesOnlyHbaIsPxIsCiOrSact}
use Rattle.port_control.proofs.looks.Serving.{spares_port}
use Rattle.port_control.proofs.looks.Stretching.{kept}

pub services_recorded : (laws : Laws) (q : ℕ) (old new : Device) → IsDrivenBy WritesOnlyHbaIsPxIsCiOrSact old new → RecordsFaultsIfSt old.tape (old.port q) q → RecordsFaultsIfSt new.tape (new.port q) q
services_recorded laws q old new a =
    kept (λ x y. RecordsFaultsIfSt x.tape (x.port q) q → RecordsFaultsIfSt y.tape (y.port q) q) (λ d h. h) (λ x y z s t h. t (s h)) WritesOnlyHbaIsPxIsCiOrSact
    (λ access x y is does. laws.access_keeps_fault_record (port_at q) access x y
    (spares_port (port_at q) Cmd (λ e. cc) (λ e. cc) (λ e. cc) access is) (spares_port (port_at q) Sctl (λ e. cc) (λ e. cc) (λ e. cc) access is) does)
    old new a
