-- How transfers are issued and found done, access by access.
use Rattle.std.proofs.Common.{ℕ, ◌≡◌, List, [], ◌∷◌, sym, inl, inr, subst, ⊎_elim}
use Rattle.ata_types.specs.declared.Port.{Port}
use Rattle.hba_regs.specs.declared.reg.PortReg.TheVariants.{Ci, Sact}
use Rattle.hba_regs.specs.declared.reg.Reg.TheVariants.{Px}
use Rattle.adapter.specs.Access.{Access, DoesAll, Reads}
use Rattle.adapter.specs.Access.Access.{Reading, Writing, Loading, Storing}
use Rattle.adapter.specs.Device.{Device}
use Rattle.ncq.specs.Batches.{IsCommandIssueAccess}
use Rattle.ncq.specs.Masks.{ReadsDone, ReadsCiOrSact}
use Rattle.port_control.specs.ServiceAccesses.{WritesOnlyHbaIsPxIsCiOrSact}

-- ---- issuing

pub issuing_serves : (port : Port) (access : Access) → IsCommandIssueAccess port access → WritesOnlyHbaIsPxIsCiOrSact access
issuing_serves port (Writing r v) here = ⊎_elim (λ (is : r ≡ Px port Sact). inr (port, inr (inr is))) (λ (is : r ≡ Px port Ci). inr (port, inr (inl is))) here
issuing_serves port (Storing at bytes) here = tt
issuing_serves port (Loading at bytes) here = absurd here
issuing_serves port (Reading r v) here = absurd here

-- ---- finding what is done

pub finding_serves : (port : Port) (access : Access) → ReadsCiOrSact port access → WritesOnlyHbaIsPxIsCiOrSact access
finding_serves port (Reading r v) here = tt
finding_serves port (Writing r v) here = absurd here
finding_serves port (Loading at bytes) here = absurd here
finding_serves port (Storing at bytes) here = absurd here

module _ (port : Port) (mask done : ℕ) (old new : Device) (f : ReadsDone port mask done old new) where
  -- PxCI was read, and then PxSACT
  pub both_read : (mid : Device) × Reads (Px port Ci) f.issued old mid × Reads (Px port Sact) f.active mid new
  both_read =
      let all : DoesAll (Reading (Px port Ci) f.issued ∷ Reading (Px port Sact) f.active ∷ []) old new = subst (λ (accesses : List Access). DoesAll accesses old new) f.reads f.driven.all_are_done in
      (all.0, all.1, subst (Reads (Px port Sact) f.active all.0) (sym all.2.2) all.2.1)
