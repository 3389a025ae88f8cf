-- A ready port runs on while ports are served.
use Rattle.std.proofs.Common.{ℕ, ◌≡◌, ◌≢◌, ◌+◌, ◌%◌, Bool, true, false, nat_eq, refl, ap, ◌∙◌, subst, ⊎_elim}
use Rattle.std.specs.Prelude.{min, if◌then◌else◌}
use Rattle.std.proofs.lemmas.Bool.{cases_eq}
use Rattle.ata_types.specs.declared.Port.{Port}
use Rattle.ata_types.specs.declared.limits.TheConstants.{MOST_READINGS}
use Rattle.hba_regs.specs.declared.reg.Reg.{Reg}
use Rattle.hba_regs.specs.declared.reg.Reg.TheVariants.{Ghc, Px}
use Rattle.hba_regs.specs.declared.reg.PortReg.TheVariants.{Clb, Clbu, Fb, Fbu, Cmd, Ssts, Sctl}
use Rattle.adapter.specs.Access.{Access, Does, Reads, notes_after_reading}
use Rattle.adapter.specs.Access.Access.{Reading, Writing, Loading, Storing}
use Rattle.adapter.specs.Device.{Notes, DevicePort, Device}
use Rattle.adapter.specs.Rules.{IsOn}
use Rattle.refinement.specs.Fragments.{IsDrivenBy}
use Rattle.refinement.specs.PreservedParts.{HasDet3IfDiskPresent, ControlsChangeOnlyByTheirWrites, DoesNotWrite}
use Rattle.refinement.specs.PortNotes.{DoesNotRead}
use Rattle.port_control.specs.Ports.{programmed_bases}
use Rattle.refinement.specs.Relation.{port_at}
use Rattle.port_control.specs.ServiceAccesses.{WritesOnlyHbaIsPxIsCiOrSact}
use Rattle.driver_history.specs.PortInvariants.{EngineRuns}
use Rattle.server_history.specs.Prerequisites.{PrerequisiteLaws}
use Rattle.server_history.proofs.state.DrivenAccesses.{kept_over}

-- the engine runs, and its areas and its device were found
record Holds (port : ℕ) (d : Device) : Type 0 where
  st : (d.port port).st ≡ true
  cr : (d.port port).cr ≡ true
  fre : (d.port port).fre ≡ true
  bases : (d.port port).bases ≡ programmed_bases port
  saw : (d.port port).notes.link_wait_count ≡ MOST_READINGS

-- a count of 64 stays, whatever PxSSTS shows
counts_on : (v : ℕ) (p : DevicePort) → p.notes.link_wait_count ≡ MOST_READINGS → (notes_after_reading Ssts v p).link_wait_count ≡ MOST_READINGS
counts_on v p is = by (nat_eq p.sctl_det 0) (nat_eq (v % 16) 3) p.notes.link_wait_count is
  where
    by : (free seen : Bool) (n : ℕ) → n ≡ MOST_READINGS → (if free then (if seen then MOST_READINGS else min MOST_READINGS (n + 1)) else n) ≡ MOST_READINGS
    by false seen n e = e
    by true true n e = refl
    by true false n e = ap (λ (k : ℕ). min MOST_READINGS (k + 1)) e

pub link_still : PrerequisiteLaws → (port : Port) (access : Access) (old new : Device) → IsOn old → DoesNotWrite (Px port Sctl) access → Does access old new → (old.port port.0).notes.link_wait_count ≡ MOST_READINGS → (new.port port.0).notes.link_wait_count ≡ MOST_READINGS
link_still laws port access old new on spares does saw = by access spares does
  where
    spared : (a : Access) → DoesNotWrite (Px port Sctl) a → Does a old new → DoesNotRead (Px port Ssts) a → (new.port port.0).notes.link_wait_count ≡ MOST_READINGS
    spared a its did other = ((laws.port_event_laws.access_notes port a old new did).link other).1 its ∙ saw

    read : (r : Reg) (v : ℕ) → Does (Reading r v) old new → (new.port port.0).notes.link_wait_count ≡ MOST_READINGS
    read (Px p Ssts) v did = ⊎_elim
        (λ (e : p.0 ≡ port.0).
        let same : Reads (Px port Ssts) v old new = subst (λ (q : Port). Reads (Px q Ssts) v old new) (ap port_at e) did in
        ap (λ (n : Notes). n.link_wait_count) (laws.look_laws.reading_is_noted port Ssts v old new on.no_reset same) ∙ counts_on v (old.port port.0) saw)
        (λ (ne : p.0 ≢ port.0). spared (Reading (Px p Ssts) v) tt did (λ q. ne (let same : p ≡ port = (let z : Px p Ssts ≡ Px port Ssts = q in cc) in ap (λ (x : Port). x.0) same)))
        (cases_eq p.0 port.0)
    read r v did = spared (Reading r v) tt did (λ q. absurd cc)

    by : (a : Access) → DoesNotWrite (Px port Sctl) a → Does a old new → (new.port port.0).notes.link_wait_count ≡ MOST_READINGS
    by (Writing r v) its did = spared (Writing r v) its did tt
    by (Loading at bytes) its did = spared (Loading at bytes) its did tt
    by (Storing at bytes) its did = spared (Storing at bytes) its did tt
    by (Reading r v) its did = read r v did

each : PrerequisiteLaws → (port : Port) (access : Access) (old new : Device) → IsOn old → WritesOnlyHbaIsPxIsCiOrSact access → Does access old new → Holds port.0 old → Holds port.0 new
each laws port access old new on is does h =
    let left : ControlsChangeOnlyByTheirWrites access port (old.port port.0) (new.port port.0) = laws.port_event_laws.access_controls port access old new on.no_reset does in
    let command = left.command (laws.look_laws.services_spare_other_registers port Cmd (λ e. cc) (λ e. cc) (λ e. cc) access is) in
    let list = left.list (laws.look_laws.services_spare_other_registers port Clb (λ e. cc) (λ e. cc) (λ e. cc) access is) in
    let list_upper = left.list_upper (laws.look_laws.services_spare_other_registers port Clbu (λ e. cc) (λ e. cc) (λ e. cc) access is) in
    let received = left.received (laws.look_laws.services_spare_other_registers port Fb (λ e. cc) (λ e. cc) (λ e. cc) access is) in
    let received_upper = left.received_upper (laws.look_laws.services_spare_other_registers port Fbu (λ e. cc) (λ e. cc) (λ e. cc) access is) in
    record {
      st = command.0 ∙ h.st;
      cr = command.3 h.st h.cr;
      fre = command.1 ∙ h.fre;
      bases = (λ i. record { clb = list.0 i; fb = received.0 i; clb_set = list.1 i; clbu_set = list_upper i; fb_set = received.1 i; fbu_set = received_upper i }) ∙ h.bases;
      saw = link_still laws port access old new on (laws.look_laws.services_spare_other_registers port Sctl (λ e. cc) (λ e. cc) (λ e. cc) access is) does h.saw;
    }

-- over accesses that serve ports the adapter stays on, with what each of them keeps
on_over : PrerequisiteLaws → (Kept : Device → Type 0) → ((access : Access) (old new : Device) → IsOn old → WritesOnlyHbaIsPxIsCiOrSact access → Does access old new → Kept old → Kept new)
    → (old new : Device) → IsOn old → IsDrivenBy WritesOnlyHbaIsPxIsCiOrSact old new → Kept old → Kept new
on_over laws Kept keeps old new on driven here =
    (kept_over (λ d. IsOn d × Kept d) WritesOnlyHbaIsPxIsCiOrSact
    (λ access a b is does w. (laws.port_event_laws.access_keeps_on access a b w.0 (λ v same. absurd (subst (DoesNotWrite Ghc) same (laws.look_laws.services_do_not_write_ghc access is) refl)) does, keeps access a b w.0 is does w.1))
    old new driven (on, here)).1

-- a device shows still, or none is in
pub shown_on : PrerequisiteLaws → (port : Port) (old new : Device) → IsOn old → IsDrivenBy WritesOnlyHbaIsPxIsCiOrSact old new → HasDet3IfDiskPresent (old.port port.0) → HasDet3IfDiskPresent (new.port port.0)
shown_on laws port old new on driven =
    on_over laws (λ d. HasDet3IfDiskPresent (d.port port.0))
    (λ access a b ready is does. laws.look_laws.disk_shown_if_in_stays_but_for_sctl_write port access a b ready.no_reset (laws.look_laws.services_spare_other_registers port Sctl (λ e. cc) (λ e. cc) (λ e. cc) access is) does) old new on driven

pub runs_on : PrerequisiteLaws → (port : Port) (old new : Device) → IsOn old → IsDrivenBy WritesOnlyHbaIsPxIsCiOrSact old new → EngineRuns port.0 old → EngineRuns port.0 new
runs_on laws port old new on driven r = record {
  st_is_set = h.st;
  cr_is_set = h.cr;
  fre_is_set = h.fre;
  bases_are_programmed = h.bases;
  device_was_seen = h.saw;
  faults_are_recorded = laws.look_laws.service_keeps_faults_on_record port.0 old new driven (λ _. r.faults_are_recorded) h.st;
}
  where
    h : Holds port.0 new
    h = on_over laws (Holds port.0) (each laws port) old new on driven (record { st = r.st_is_set; cr = r.cr_is_set; fre = r.fre_is_set; bases = r.bases_are_programmed; saw = r.device_was_seen })
