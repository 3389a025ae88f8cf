-- What goes on over each access that writes neither PxCMD nor PxSCTL: a link that is awaited, and the record of faults.
use Rattle.std.proofs.Common.{ℕ, ◌≡◌, not, true, List, length, refl, sym, subst, inl, inr, ⊎_elim}
use Rattle.std.proofs.lemmas.Bool.{and_parts, or_left}
use Rattle.ata_types.specs.declared.Port.{Port}
use Rattle.hba_regs.specs.Bits.{bit}
use Rattle.hba_regs.specs.declared.reg.Reg.TheVariants.{Px}
use Rattle.hba_regs.specs.declared.reg.PortReg.{PortReg}
use Rattle.hba_regs.specs.declared.reg.PortReg.TheVariants.{Clb, Clbu, Fb, Fbu, Is, Ie, Cmd, Tfd, Sig, Ssts, Sctl, Serr, Sact, Ci}
use Rattle.adapter.specs.Access.{Access, Does, port_after_write}
use Rattle.adapter.specs.Device.{DevicePort, Device}
use Rattle.adapter.specs.declared.tape.Entry.{Entry}
use Rattle.refinement.specs.PortFacts.{WhileLinkAwaitedCrIsClearAndDrqSet, RecordsFaultsIfSt}
use Rattle.refinement.specs.PreservedParts.{DoesNotWrite}
use Rattle.refinement.proofs.steps.AdapterCalls.{note_times}
use Rattle.refinement.proofs.device.AwaitedLink.{steps_awaited}
use Rattle.refinement.proofs.device.FactsOverAccesses.{access_steps, effect_keeps}
use Rattle.refinement.proofs.device.PortControls.{spared}
use Rattle.refinement.proofs.device.RecordedFaults.{SameRecord, same_with, recorded_on, steps_recorded}

-- ---- the link

written_awaits : (r : PortReg) (v tape : ℕ) (p : DevicePort) → (r ≡ Cmd → ⊥) → (r ≡ Sctl → ⊥) → WhileLinkAwaitedCrIsClearAndDrqSet p → WhileLinkAwaitedCrIsClearAndDrqSet (port_after_write r v tape p)
written_awaits Cmd v tape p command control h = absurd (command refl)
written_awaits Sctl v tape p command control h = absurd (control refl)
written_awaits _ v tape p command control h = h

pub access_awaited : (port : Port) (access : Access) (old new : Device) → DoesNotWrite (Px port Cmd) access → DoesNotWrite (Px port Sctl) access → Does access old new →
    WhileLinkAwaitedCrIsClearAndDrqSet (old.port port.0) → WhileLinkAwaitedCrIsClearAndDrqSet (new.port port.0)
access_awaited port access old new command control x h =
    let s = access_steps access old new x in
    effect_keeps WhileLinkAwaitedCrIsClearAndDrqSet port (λ p r v y. y) (λ p y. y) access old new x
    (λ r v mid is steps y. written_awaits r v (length mid.tape) (mid.port port.0) (spared port r Cmd access v command is) (spared port r Sctl access v control is) y)
    (steps_awaited port.0 old s.0 s.1 h)

-- ---- the record of faults

same_written : (r : PortReg) (v tape : ℕ) (p : DevicePort) → (r ≡ Cmd → ⊥) → (r ≡ Sctl → ⊥) → SameRecord p (port_after_write r v tape p)
same_written Cmd v tape p command control = absurd (command refl)
same_written Sctl v tape p command control = absurd (control refl)
same_written Is v tape p command control =
    record { st = refl; set_at = refl; linked = refl; flag = λ f. (and_parts (p.is 30) (not (bit v 30)) f).0; halt = refl; tfd = refl; used = λ slot u. u }
same_written Ci v tape p command control = record {
  st = refl;
  set_at = refl;
  linked = refl;
  flag = λ f. f;
  halt = refl;
  tfd = refl;
  used = λ slot u. ⊎_elim (λ (set : p.ci slot ≡ true). inl (or_left _ _ set)) (λ t. inr t) u;
}
same_written Clb v tape p command control = same_with p _ _ _ _ _ _ _ _ _ _ _ _ _ _ _
same_written Clbu v tape p command control = same_with p _ _ _ _ _ _ _ _ _ _ _ _ _ _ _
same_written Fb v tape p command control = same_with p _ _ _ _ _ _ _ _ _ _ _ _ _ _ _
same_written Fbu v tape p command control = same_with p _ _ _ _ _ _ _ _ _ _ _ _ _ _ _
same_written Ie v tape p command control = same_with p _ _ _ _ _ _ _ _ _ _ _ _ _ _ _
same_written Serr v tape p command control = same_with p _ _ _ _ _ _ _ _ _ _ _ _ _ _ _
same_written Sact v tape p command control = same_with p _ _ _ _ _ _ _ _ _ _ _ _ _ _ _
same_written Tfd v tape p command control = same_with p _ _ _ _ _ _ _ _ _ _ _ _ _ _ _
same_written Sig v tape p command control = same_with p _ _ _ _ _ _ _ _ _ _ _ _ _ _ _
same_written Ssts v tape p command control = same_with p _ _ _ _ _ _ _ _ _ _ _ _ _ _ _

pub access_recorded : (port : Port) (access : Access) (old new : Device) → DoesNotWrite (Px port Cmd) access → DoesNotWrite (Px port Sctl) access → Does access old new →
    RecordsFaultsIfSt old.tape (old.port port.0) port.0 → RecordsFaultsIfSt new.tape (new.port port.0) port.0
access_recorded port access old new command control x h =
    let s = access_steps access old new x in
    subst (λ (t : List Entry). RecordsFaultsIfSt t (new.port port.0) port.0) (sym s.2)
    (effect_keeps (λ p. RecordsFaultsIfSt s.0.tape p port.0) port
    (λ p r v y. recorded_on s.0.tape p _ port.0 (record { st = refl; set_at = (note_times r v p).0; linked = refl; flag = λ f. f; halt = refl; tfd = refl; used = λ slot u. u }) y)
    (λ p y. recorded_on s.0.tape p _ port.0 (record { st = refl; set_at = refl; linked = refl; flag = λ f. f; halt = refl; tfd = refl; used = λ slot u. u }) y)
    access old new x
    (λ r v mid is steps y. recorded_on s.0.tape (mid.port port.0) _ port.0
    (same_written r v (length mid.tape) (mid.port port.0) (spared port r Cmd access v command is) (spared port r Sctl access v control is)) y)
    (steps_recorded port.0 old s.0 s.1 h))
