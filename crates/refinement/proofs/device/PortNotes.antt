-- What readings of a port note, and what leaves it.
use Rattle.std.proofs.Common.{ℕ, ◌≡◌, Bool, true, false, length, refl, sym, ◌∙◌, ap, subst}
use Rattle.std.specs.Prelude.{if◌then◌else◌}
use Rattle.std.proofs.lemmas.Bool.{cond-true, cond-false}
use Rattle.ata_types.specs.declared.Port.{Port}
use Rattle.hba_regs.specs.Bits.{bit}
use Rattle.hba_regs.specs.declared.reg.Reg.{Reg}
use Rattle.hba_regs.specs.declared.reg.Reg.TheVariants.{Cap, Ghc, Pi, Vs, Cap2, Bohc, Px}
use Rattle.hba_regs.specs.declared.reg.Reg.TheVariants as adapter
use Rattle.hba_regs.specs.declared.reg.PortReg.{PortReg}
use Rattle.hba_regs.specs.declared.reg.PortReg.TheVariants.{Is, Cmd, Tfd, Sig, Ssts, Sctl, Sact, Ci}
use Rattle.adapter.specs.Access.{Access, Does, Reads, PortShows, notes_after_reading, device_after_reading, device_after_write, port_after_write, port_after_st_write, port_after_fre_write, port_after_hba_is_write}
use Rattle.adapter.specs.Access.Access.{Reading, Writing, Loading, Storing}
use Rattle.adapter.specs.Device.{Notes, DevicePort, Device}
use Rattle.adapter.specs.KeptBySteps.{KeepsControlsFlagsRise}
use Rattle.adapter.specs.Steps.{Steps}
use Rattle.adapter.proofs.Changed.{changed_same}
use Rattle.refinement.specs.StepLaws.{StepLaws}
use Rattle.refinement.specs.Relation.{port_at}
use Rattle.refinement.specs.PreservedParts.{DoesNotWrite}
use Rattle.refinement.specs.PortNotes.{DoesNotRead, NotesChangeOnlyByReadOrSctlWrite}
use Rattle.refinement.proofs.device.HealthyPort.{at_port}

-- ---- what is noted

read_notes : (port : Port) (r : PortReg) (v : ℕ) (old new : Device) (x : Reads (Px port r) v old new) → (new.port port.0).notes ≡ notes_after_reading r v (x.at_access.port port.0)
read_notes port r v old new x = ap (λ (d : Device). (d.port port.0).notes) x.effect ∙ ap (λ (p : DevicePort). p.notes) (changed_same x.at_access.port port.0 _)

pub command_noted : (port : Port) (v : ℕ) (old new : Device) → Reads (Px port Cmd) v old new → (new.port port.0).notes.last_cmd ≡ v
command_noted port v old new x = ap (λ (n : Notes). n.last_cmd) (read_notes port Cmd v old new x)

pub link_noted : (port : Port) (v : ℕ) (old new : Device) → Reads (Px port Ssts) v old new → (new.port port.0).notes.last_ssts ≡ v
link_noted port v old new x = ap (λ (n : Notes). n.last_ssts) (read_notes port Ssts v old new x)

pub file_noted : (port : Port) (v : ℕ) (old new : Device) → Reads (Px port Tfd) v old new → (new.port port.0).notes.last_tfd ≡ v
file_noted port v old new x = ap (λ (n : Notes). n.last_tfd) (read_notes port Tfd v old new x)

pub issued_noted : (port : Port) (v : ℕ) (old new : Device) → Reads (Px port Ci) v old new → (new.port port.0).notes.last_ci ≡ v
issued_noted port v old new x = ap (λ (n : Notes). n.last_ci) (read_notes port Ci v old new x)

pub active_noted : (port : Port) (v : ℕ) (old new : Device) → Reads (Px port Sact) v old new → (new.port port.0).notes.last_sact ≡ v
active_noted port v old new x = ap (λ (n : Notes). n.last_sact) (read_notes port Sact v old new x)

pub signature_noted : (port : Port) (v : ℕ) (old new : Device) → Reads (Px port Sig) v old new → (new.port port.0).notes.last_sig ≡ v
signature_noted port v old new x = ap (λ (n : Notes). n.last_sig) (read_notes port Sig v old new x)

-- the controls and the notes of a port say what is noted
note_same : (r : PortReg) (v : ℕ) (p q : DevicePort) → q.st ≡ p.st → q.fre ≡ p.fre → q.sctl_det ≡ p.sctl_det → q.notes ≡ p.notes → notes_after_reading r v q ≡ notes_after_reading r v p
note_same Cmd v p q st fre det notes = rw st (rw fre (rw notes refl))
note_same Ssts v p q st fre det notes = rw det (rw notes refl)
note_same Tfd v p q st fre det notes = rw det (rw notes refl)
note_same Ci v p q st fre det notes = rw det (rw notes refl)
note_same Sig v p q st fre det notes = rw notes refl
note_same Sact v p q st fre det notes = rw notes refl
note_same Is v p q st fre det notes = rw notes refl
note_same _ v p q st fre det notes = notes

pub notes_read : StepLaws → (port : Port) (r : PortReg) (v : ℕ) (old new : Device) → old.hr ≡ false → Reads (Px port r) v old new → (new.port port.0).notes ≡ notes_after_reading r v (old.port port.0)
notes_read laws port r v old new off x =
    let k = laws.steps_keep _ _ x.steps in
    let c : KeepsControlsFlagsRise (old.port port.0) (x.at_access.port port.0) = (k.keeps_outside_reset off).controls_are_kept port.0 in
    read_notes port r v old new x ∙ note_same r v (old.port port.0) (x.at_access.port port.0) c.st_is_kept c.fre_is_kept c.sctl_det_is_kept (k.notes_are_kept port.0)

pub shown_after : StepLaws → (port : Port) (r : PortReg) (v : ℕ) (old new : Device) → old.hr ≡ false → Reads (Px port r) v old new → PortShows r v (new.port port.0)
shown_after laws port r v old new off x = (laws.reading_shows_register port r v old new x off).shows

-- ---- what leaves it

pub law_noted_reads_change_only_by_read_or_sctl : StepLaws → (port : ℕ) (old new : Device) → Steps old new → (new.port port).notes ≡ (old.port port).notes
law_noted_reads_change_only_by_read_or_sctl laws port old new s = (laws.steps_keep _ _ s).notes_are_kept port

module _ (access : Access) (port : Port) (first : Notes) where
  -- the fields of `NotesChangeOnlyByReadOrSctlWrite`
  abbrev Leaves : DevicePort → Type 0
  Leaves p =
      (DoesNotRead (Px port Cmd) access → (p.notes.last_cmd ≡ first.last_cmd) × (p.notes.engine_wait_count ≡ first.engine_wait_count))
      × (DoesNotRead (Px port Ssts) access → (p.notes.last_ssts ≡ first.last_ssts) × (DoesNotWrite (Px port Sctl) access → p.notes.link_wait_count ≡ first.link_wait_count))
      × (DoesNotRead (Px port Tfd) access → (p.notes.last_tfd ≡ first.last_tfd) × (DoesNotWrite (Px port Sctl) access → p.notes.busy_count ≡ first.busy_count))
      × (DoesNotRead (Px port Ci) access → (p.notes.last_ci ≡ first.last_ci) × (DoesNotWrite (Px port Sctl) access → p.notes.slot0_issued_count ≡ first.slot0_issued_count))
      × (DoesNotRead (Px port Sact) access → p.notes.last_sact ≡ first.last_sact)
      × (DoesNotRead (Px port Sig) access → p.notes.last_sig ≡ first.last_sig)

  noted_leaves : (r : PortReg) (v : ℕ) (p : DevicePort) → (DoesNotRead (Px port r) access → ⊥) → Leaves p → Leaves (record p { notes = notes_after_reading r v p })
  noted_leaves Cmd v p here h = (λ s. absurd (here s), h.1, h.2, h.3, h.4, h.5)
  noted_leaves Ssts v p here h = (h.0, λ s. absurd (here s), h.2, h.3, h.4, h.5)
  noted_leaves Tfd v p here h = (h.0, h.1, λ s. absurd (here s), h.3, h.4, h.5)
  noted_leaves Ci v p here h = (h.0, h.1, h.2, λ s. absurd (here s), h.4, h.5)
  noted_leaves Sact v p here h = (h.0, h.1, h.2, h.3, λ s. absurd (here s), h.5)
  noted_leaves Sig v p here h = (h.0, h.1, h.2, h.3, h.4, λ s. absurd (here s))
  noted_leaves _ v p here h = h

  command_leaves : (v tape : ℕ) (p : DevicePort) → Leaves p → Leaves (port_after_write Cmd v tape p)
  command_leaves v tape p h = by (bit v 0) p.st refl
    where
      by : (b s : Bool) → p.st ≡ s → Leaves (port_after_fre_write (bit v 4) (port_after_st_write b tape p))
      by false s is = h
      by true true is = subst (λ (x : DevicePort). Leaves (port_after_fre_write (bit v 4) x)) (sym (cond-true p.st p _ is)) h
      by true false is = subst (λ (x : DevicePort). Leaves (port_after_fre_write (bit v 4) x)) (sym (cond-false p.st p _ is)) h

  written_leaves : (r : PortReg) (v tape : ℕ) (p : DevicePort) → (DoesNotWrite (Px port r) access → ⊥) → Leaves p → Leaves (port_after_write r v tape p)
  written_leaves Cmd v tape p here h = command_leaves v tape p h
  written_leaves Sctl v tape p here h = (
    h.0,
    λ s. ((h.1 s).0, λ c. absurd (here c)),
    λ s. ((h.2 s).0, λ c. absurd (here c)),
    λ s. ((h.3 s).0, λ c. absurd (here c)),
    h.4,
    h.5,
  )
  written_leaves _ v tape p here h = h

  left_notes : (p : DevicePort) → p.notes ≡ first → Leaves p
  left_notes p is = (
    λ s. (ap (λ (n : Notes). n.last_cmd) is, ap (λ (n : Notes). n.engine_wait_count) is),
    λ s. (ap (λ (n : Notes). n.last_ssts) is, λ c. ap (λ (n : Notes). n.link_wait_count) is),
    λ s. (ap (λ (n : Notes). n.last_tfd) is, λ c. ap (λ (n : Notes). n.busy_count) is),
    λ s. (ap (λ (n : Notes). n.last_ci) is, λ c. ap (λ (n : Notes). n.slot0_issued_count) is),
    λ s. ap (λ (n : Notes). n.last_sact) is,
    λ s. ap (λ (n : Notes). n.last_sig) is,
  )

-- a reading, and a write
reading_leaves : (port : Port) (first : Notes) (r : Reg) (v : ℕ) (d : Device) → Leaves (Reading r v) port first (d.port port.0) → Leaves (Reading r v) port first ((device_after_reading r v d).port port.0)
reading_leaves port first (Px p r) v d h = at_port (Leaves (Reading (Px p r) v) port first) (Leaves (Reading (Px p r) v) port first) d p.0 port.0 _ h
    (λ e x. noted_leaves (Reading (Px p r) v) port first r v (d.port p.0) (λ s. s (ap (λ (q : Port). Px q r) (ap port_at e))) x)
    (λ ne x. x)
reading_leaves port first Cap v d h = h
reading_leaves port first Ghc v d h = h
reading_leaves port first adapter.Is v d h = h
reading_leaves port first Pi v d h = h
reading_leaves port first Vs v d h = h
reading_leaves port first Cap2 v d h = h
reading_leaves port first Bohc v d h = h

writing_leaves : (port : Port) (first : Notes) (r : Reg) (v : ℕ) (d : Device) → Leaves (Writing r v) port first (d.port port.0) → Leaves (Writing r v) port first ((device_after_write r v d).port port.0)
writing_leaves port first (Px p r) v d h = at_port (Leaves (Writing (Px p r) v) port first) (Leaves (Writing (Px p r) v) port first) d p.0 port.0 _ h
    (λ e x. written_leaves (Writing (Px p r) v) port first r v (length d.tape) (d.port p.0) (λ s. s (ap (λ (q : Port). Px q r) (ap port_at e))) x)
    (λ ne x. x)
writing_leaves port first adapter.Is v d h = by (bit v port.0)
  where
    by : (b : Bool) → Leaves (Writing adapter.Is v) port first (if b then port_after_hba_is_write (d.port port.0) else d.port port.0)
    by true = h
    by false = h
writing_leaves port first Cap v d h = h
writing_leaves port first Ghc v d h = h
writing_leaves port first Pi v d h = h
writing_leaves port first Vs v d h = h
writing_leaves port first Cap2 v d h = h
writing_leaves port first Bohc v d h = h

access_leaves : StepLaws → (port : Port) (access : Access) (old new : Device) → Does access old new → Leaves access port (old.port port.0).notes (new.port port.0)
access_leaves laws port (Reading r v) old new x = subst (λ (d : Device). Leaves (Reading r v) port (old.port port.0).notes (d.port port.0)) (sym x.effect)
    (reading_leaves port (old.port port.0).notes r v x.at_access (left_notes (Reading r v) port (old.port port.0).notes (x.at_access.port port.0) (law_noted_reads_change_only_by_read_or_sctl laws port.0 old x.at_access x.steps)))
access_leaves laws port (Writing r v) old new x = subst (λ (d : Device). Leaves (Writing r v) port (old.port port.0).notes (d.port port.0)) (sym x.effect)
    (writing_leaves port (old.port port.0).notes r v x.at_access (left_notes (Writing r v) port (old.port port.0).notes (x.at_access.port port.0) (law_noted_reads_change_only_by_read_or_sctl laws port.0 old x.at_access x.steps)))
access_leaves laws port (Loading at bytes) old new x = left_notes (Loading at bytes) port (old.port port.0).notes (new.port port.0) (law_noted_reads_change_only_by_read_or_sctl laws port.0 old new x.steps)
access_leaves laws port (Storing at bytes) old new x = left_notes (Storing at bytes) port (old.port port.0).notes (new.port port.0)
    (ap (λ (d : Device). (d.port port.0).notes) x.effect ∙ law_noted_reads_change_only_by_read_or_sctl laws port.0 old x.at_access x.steps)

pub access_notes : StepLaws → (port : Port) (access : Access) (old new : Device) → Does access old new → NotesChangeOnlyByReadOrSctlWrite access port (old.port port.0).notes (new.port port.0).notes
access_notes laws port access old new x =
    let h : Leaves access port (old.port port.0).notes (new.port port.0) = access_leaves laws port access old new x in
    record { command = h.0; link = h.1; task_file = h.2; issued = h.3; active = h.4; signature = h.5 }
