-- What accesses leave of the adapter.
use Rattle.std.proofs.Common.{ℕ, ◌≡◌, List, Bool, true, false, ◌||◌, refl, sym, ◌∙◌, ap, subst}
use Rattle.hba_regs.specs.Bits.{bit}
use Rattle.hba_regs.specs.declared.reg.Reg.{Reg}
use Rattle.hba_regs.specs.declared.reg.Reg.TheVariants.{Cap, Ghc, Is, Pi, Vs, Cap2, Bohc, Px}
use Rattle.adapter.specs.Access.{Access, Does, Stores, device_after_reading, device_after_write}
use Rattle.adapter.specs.Access.Access.{Reading, Writing, Loading, Storing}
use Rattle.adapter.specs.Device.{Device}
use Rattle.adapter.specs.KeptBySteps.{KeepsOverSteps}
use Rattle.adapter.specs.Rules.{IsOn}
use Rattle.adapter.specs.Steps.{Steps}
use Rattle.adapter.proofs.KeptLemmas.{law_step_lists_keep_what_steps_keep}
use Rattle.refinement.specs.PreservedParts.{SameAdapter}
use Rattle.refinement.proofs.steps.RegisterWrites.{or_false}

steps_same : (old new : Device) → Steps old new → SameAdapter old new
steps_same old new s = let k : KeepsOverSteps old new = law_step_lists_keep_what_steps_keep s in record { disks_tell_sectors = k.disks_tell_sectors_is_kept; memory_size = k.memory_size_is_kept; cap = k.cap_is_kept; pi = k.pi_is_kept }

pub same_more : (old mid new : Device) → SameAdapter old mid → SameAdapter mid new → SameAdapter old new
same_more old mid new a b = record { disks_tell_sectors = b.disks_tell_sectors ∙ a.disks_tell_sectors; memory_size = b.memory_size ∙ a.memory_size; cap = b.cap ∙ a.cap; pi = b.pi ∙ a.pi }

pub same_refl : (d : Device) → SameAdapter d d
same_refl d = record { disks_tell_sectors = refl; memory_size = refl; cap = refl; pi = refl }

noted_same : (r : Reg) (v : ℕ) (d : Device) → SameAdapter d (device_after_reading r v d)
noted_same (Px p r) v d = record { disks_tell_sectors = refl; memory_size = refl; cap = refl; pi = refl }
noted_same Cap v d = same_refl d
noted_same Ghc v d = same_refl d
noted_same Is v d = same_refl d
noted_same Pi v d = same_refl d
noted_same Vs v d = same_refl d
noted_same Cap2 v d = same_refl d
noted_same Bohc v d = same_refl d

written_same : (r : Reg) (v : ℕ) (d : Device) → SameAdapter d (device_after_write r v d)
written_same (Px p r) v d = record { disks_tell_sectors = refl; memory_size = refl; cap = refl; pi = refl }
written_same Ghc v d = record { disks_tell_sectors = refl; memory_size = refl; cap = refl; pi = refl }
written_same Is v d = record { disks_tell_sectors = refl; memory_size = refl; cap = refl; pi = refl }
written_same Cap v d = same_refl d
written_same Pi v d = same_refl d
written_same Vs v d = same_refl d
written_same Cap2 v d = same_refl d
written_same Bohc v d = same_refl d

pub access_same : (access : Access) (old new : Device) → Does access old new → SameAdapter old new
access_same (Reading r v) old new x = subst (SameAdapter old) (sym x.effect) (same_more old x.at_access (device_after_reading r v x.at_access) (steps_same old x.at_access x.steps) (noted_same r v x.at_access))
access_same (Writing r v) old new x = subst (SameAdapter old) (sym x.effect) (same_more old x.at_access (device_after_write r v x.at_access) (steps_same old x.at_access x.steps) (written_same r v x.at_access))
access_same (Loading at bytes) old new x = steps_same old new x.steps
access_same (Storing at bytes) old new x =
    let s = steps_same old x.at_access x.steps in
    subst (SameAdapter old) (sym x.effect) (record { disks_tell_sectors = s.disks_tell_sectors; memory_size = s.memory_size; cap = s.cap; pi = s.pi })

-- ---- it stays switched on

steps_on : (old new : Device) → Steps old new → IsOn old → IsOn new
steps_on old new s on = let k = (law_step_lists_keep_what_steps_keep s).keeps_outside_reset on.no_reset in record { ae_is_set = k.ae_is_kept ∙ on.ae_is_set; no_reset = k.no_reset }

noted_switched_on : (r : Reg) (v : ℕ) (d : Device) → IsOn d → IsOn (device_after_reading r v d)
noted_switched_on (Px p r) v d on = record { ae_is_set = on.ae_is_set; no_reset = on.no_reset }
noted_switched_on Cap v d on = on
noted_switched_on Ghc v d on = on
noted_switched_on Is v d on = on
noted_switched_on Pi v d on = on
noted_switched_on Vs v d on = on
noted_switched_on Cap2 v d on = on
noted_switched_on Bohc v d on = on

written_switched_on : (r : Reg) (v : ℕ) (d : Device) → (r ≡ Ghc → (bit v 31 ≡ true) × (bit v 0 ≡ false)) → IsOn d → IsOn (device_after_write r v d)
written_switched_on Ghc v d keeps on = record { ae_is_set = (keeps refl).0; no_reset = ap (λ (b : Bool). d.hr || b) (keeps refl).1 ∙ or_false d.hr ∙ on.no_reset }
written_switched_on (Px p r) v d keeps on = record { ae_is_set = on.ae_is_set; no_reset = on.no_reset }
written_switched_on Is v d keeps on = record { ae_is_set = on.ae_is_set; no_reset = on.no_reset }
written_switched_on Cap v d keeps on = on
written_switched_on Pi v d keeps on = on
written_switched_on Vs v d keeps on = on
written_switched_on Cap2 v d keeps on = on
written_switched_on Bohc v d keeps on = on

pub access_on : (access : Access) (old new : Device) → IsOn old → ((v : ℕ) → access ≡ Writing Ghc v → (bit v 31 ≡ true) × (bit v 0 ≡ false)) → Does access old new → IsOn new
access_on (Reading r v) old new on keeps x = subst IsOn (sym x.effect) (noted_switched_on r v x.at_access (steps_on old x.at_access x.steps on))
access_on (Writing r v) old new on keeps x = subst IsOn (sym x.effect) (written_switched_on r v x.at_access (λ e. keeps v (ap (λ (z : Reg). Writing z v) e)) (steps_on old x.at_access x.steps on))
access_on (Loading at bytes) old new on keeps x = steps_on old new x.steps on
access_on (Storing at bytes) old new on keeps x = let s = steps_on old x.at_access x.steps on in subst IsOn (sym x.effect) (record { ae_is_set = s.ae_is_set; no_reset = s.no_reset })

-- ---- what a store leaves

pub store_after_steps_leaves_ports_tape_hr : (at : ℕ) (bytes : List ℕ) (old new : Device) → Stores at bytes old new → (mid : Device) × Steps old mid × ((port : ℕ) → new.port port ≡ mid.port port) × (new.tape ≡ mid.tape) × (new.hr ≡ mid.hr)
store_after_steps_leaves_ports_tape_hr at bytes old new x = (
  x.at_access,
  x.steps,
  λ port. ap (λ (d : Device). d.port port) x.effect,
  ap (λ (d : Device). d.tape) x.effect,
  ap (λ (d : Device). d.hr) x.effect,
)
