-- Accesses that serve ports, one after another, and what they leave.
use Rattle.std.proofs.Common.{ℕ, ◌≡◌, ◌≢◌, ◌⊎◌, ⊎_elim, false, inl, inr, refl, sym, ◌∙◌, ap, subst}
use Rattle.ata_types.specs.declared.Port.{Port}
use Rattle.hba_regs.specs.declared.reg.Reg.{Reg}
use Rattle.hba_regs.specs.declared.reg.Reg.TheVariants as reg
use Rattle.hba_regs.specs.declared.reg.Reg.TheVariants.{Ghc, Px}
use Rattle.hba_regs.specs.declared.reg.PortReg.{PortReg}
use Rattle.hba_regs.specs.declared.reg.PortReg.TheVariants.{Clb, Is, Ie, Cmd, Sctl, Serr, Sact, Ci}
use Rattle.adapter.specs.Access.{Access, Does}
use Rattle.adapter.specs.Access.Access.{Reading, Writing, Loading, Storing}
use Rattle.adapter.specs.Device.{DevicePort, Device}
use Rattle.adapter.specs.Rules.{IsOn}
use Rattle.refinement.specs.Relation.{port_at}
use Rattle.refinement.specs.Fragments.{AnyAccess, TapeGrows, SameSlotStates, SomeMachineAgrees, IsDrivenBy, IsSimulated}
use Rattle.refinement.specs.Errors.{KeepsSetBitsOfPxisAndSerrNX}
use Rattle.refinement.specs.PortFacts.{RunsWell, Undisturbed}
use Rattle.refinement.specs.PreservedParts.{DoesNotWrite, SameAdapter, ControlsChangeOnlyByTheirWrites}
use Rattle.refinement.specs.Slots.{SlotStates}
use Rattle.port_control.specs.EventLaws.{Laws}
use Rattle.port_control.specs.EventLaws.AccessPurpose.{ServingAnyPortWithSlotsUsedSo}
use Rattle.port_control.specs.PortEvents.{IsPxisSstsOrOwnIsAccess}
use Rattle.port_control.specs.ServiceAccesses.{WritesOnlyHbaIsPxIsCiOrSact, WritesOnlyHbaIsCiSactOrOtherPxIs}
use Rattle.port_control.proofs.looks.Stretching.{driven_as, kept, kept_on}

-- ---- kinds of accesses

pub looking_service : (port : Port) (access : Access) → IsPxisSstsOrOwnIsAccess port access → WritesOnlyHbaIsPxIsCiOrSact access
looking_service port (Reading r v) here = tt
looking_service port (Writing r v) (inl e) = inr (port, inl e)
looking_service port (Writing r v) (inr is) = inl is.0
looking_service port (Storing at bytes) here = absurd here
looking_service port (Loading at bytes) here = absurd here

pub looking_beside : (port other : Port) (access : Access) → port.0 ≢ other.0 → IsPxisSstsOrOwnIsAccess port access → WritesOnlyHbaIsCiSactOrOtherPxIs other access
looking_beside port other (Reading r v) ne here = (tt, tt)
looking_beside port other (Writing r v) ne (inl e) = (inr (port, inl e), λ q. ne (let z : Px port Is ≡ Px other Is = sym e ∙ q in let same : port ≡ other = cc in ap (λ (p : Port). p.0) same))
looking_beside port other (Writing r v) ne (inr is) = (inl is.0, λ q. absurd (let z : reg.Is ≡ Px other Is = sym is.0 ∙ q in cc))
looking_beside port other (Storing at bytes) ne here = absurd here
looking_beside port other (Loading at bytes) ne here = absurd here

-- no other register is written
pub spares_other : (r : Reg) → (reg.Is ≡ r → ⊥) → ((port : Port) (its : PortReg) → (its ≡ Is) ⊎ ((its ≡ Ci) ⊎ (its ≡ Sact)) → Px port its ≡ r → ⊥) → (access : Access) → WritesOnlyHbaIsPxIsCiOrSact access → DoesNotWrite r access
spares_other r one own (Writing w v) (inl e) = λ q. one (sym e ∙ q)
spares_other r one own (Writing w v) (inr (port, inl e)) = λ q. own port Is (inl refl) (sym e ∙ q)
spares_other r one own (Writing w v) (inr (port, inr (inl e))) = λ q. own port Ci (inr (inl refl)) (sym e ∙ q)
spares_other r one own (Writing w v) (inr (port, inr (inr e))) = λ q. own port Sact (inr (inr refl)) (sym e ∙ q)
spares_other r one own (Reading w v) is = tt
spares_other r one own (Loading at bytes) is = tt
spares_other r one own (Storing at bytes) is = tt

pub spares_ghc : (access : Access) → WritesOnlyHbaIsPxIsCiOrSact access → DoesNotWrite Ghc access
spares_ghc = spares_other Ghc (λ e. cc) (λ port its which e. absurd (let z : Px port its ≡ Ghc = e in cc))

-- of a port, no other
pub spares_port : (port : Port) (r : PortReg) → (Is ≡ r → ⊥) → (Ci ≡ r → ⊥) → (Sact ≡ r → ⊥) → (access : Access) → WritesOnlyHbaIsPxIsCiOrSact access → DoesNotWrite (Px port r) access
spares_port port r one two three = spares_other (Px port r) (λ e. absurd (let z : reg.Is ≡ Px port r = e in cc)) (λ q its which e.
    let same : its ≡ r = let z : Px q its ≡ Px port r = e in cc in
    ⊎_elim (λ (is : its ≡ Is). one (sym is ∙ same)) (λ w. ⊎_elim (λ (is : its ≡ Ci). two (sym is ∙ same)) (λ (is : its ≡ Sact). three (sym is ∙ same)) w) which)

-- ---- what they leave

-- ST and the command list of a port are as they were
abbrev LeavesStarted : DevicePort → DevicePort → Type 0
LeavesStarted old new = (new.st ≡ old.st) × (new.bases.clb ≡ old.bases.clb)

-- DET of PxSCTL, PxIE, and when PxSCTL was written and ST set, are as they were
abbrev LeavesNoted : DevicePort → DevicePort → Type 0
LeavesNoted old new =
    (new.sctl_det ≡ old.sctl_det) × (new.ie ≡ old.ie) × (new.notes.sctl_written_at ≡ old.notes.sctl_written_at) × (new.notes.st_set_at ≡ old.notes.st_set_at)

-- a port that runs well does so still, where nothing goes wrong
abbrev StaysWell : ℕ → Device → Device → Type 0
StaysWell port old new = TapeGrows old new × (Undisturbed port old new → RunsWell (old.port port) → RunsWell (new.port port))

module _ (laws : Laws) where
  -- over accesses of which each keeps so much of an adapter that is on
  pub services_keep : (Keeps : Device → Device → Type 0) → ((d : Device) → Keeps d d) → ((a b c : Device) → Keeps a b → Keeps b c → Keeps a c) →
      ((access : Access) (old new : Device) → IsOn old → WritesOnlyHbaIsPxIsCiOrSact access → Does access old new → Keeps old new) → (old new : Device) → IsOn old → IsDrivenBy WritesOnlyHbaIsPxIsCiOrSact old new → Keeps old new × IsOn new
  services_keep Keeps none more each = kept_on laws Keeps none more WritesOnlyHbaIsPxIsCiOrSact spares_ghc each

  pub services_on : (old new : Device) → IsOn old → IsDrivenBy WritesOnlyHbaIsPxIsCiOrSact old new → IsOn new
  services_on old new on a = (services_keep (λ x y. Unit {0}) (λ d. tt) (λ x y z p q. tt) (λ access x y ready is does. tt) old new on a).1

  pub services_same : (old new : Device) → IsDrivenBy WritesOnlyHbaIsPxIsCiOrSact old new → SameAdapter old new
  services_same old new a = laws.accesses_keep_adapter old new (driven_as WritesOnlyHbaIsPxIsCiOrSact AnyAccess old new (λ access is. tt) a)

  pub services_port : (port : Port) (old new : Device) → IsOn old → IsDrivenBy WritesOnlyHbaIsPxIsCiOrSact old new → LeavesStarted (old.port port.0) (new.port port.0)
  services_port port old new on a =
      (services_keep (λ x y. LeavesStarted (x.port port.0) (y.port port.0)) (λ d. (refl, refl)) (λ x y z p q. (q.0 ∙ p.0, q.1 ∙ p.1))
      (λ access x y ready is does.
      let left : ControlsChangeOnlyByTheirWrites access port (x.port port.0) (y.port port.0) = laws.access_controls port access x y ready.no_reset does in
      ((left.command (spares_port port Cmd (λ e. cc) (λ e. cc) (λ e. cc) access is)).0, (left.list (spares_port port Clb (λ e. cc) (λ e. cc) (λ e. cc) access is)).0))
      old new on a).0

  pub services_controls : (port : ℕ) (old new : Device) → IsOn old → IsDrivenBy WritesOnlyHbaIsPxIsCiOrSact old new → LeavesNoted (old.port port) (new.port port)
  services_controls port old new on a =
      (services_keep (λ x y. LeavesNoted (x.port port) (y.port port)) (λ d. (refl, refl, refl, refl))
      (λ x y z p q. (q.0 ∙ p.0, q.1 ∙ p.1, q.2 ∙ p.2, q.3 ∙ p.3))
      (λ access x y ready is does.
      let left : ControlsChangeOnlyByTheirWrites access (port_at port) (x.port port) (y.port port) = laws.access_controls (port_at port) access x y ready.no_reset does in
      let control = left.control (spares_port (port_at port) Sctl (λ e. cc) (λ e. cc) (λ e. cc) access is) in
      (control.0, left.interrupt_enable (spares_port (port_at port) Ie (λ e. cc) (λ e. cc) (λ e. cc) access is), control.1, (left.command (spares_port (port_at port) Cmd (λ e. cc) (λ e. cc) (λ e. cc) access is)).2))
      old new on a).0

  -- over a look, bits of PxSACT that are clear stay so
  looking_inactive : (port : Port) (q slot : ℕ) (access : Access) (old new : Device) → IsPxisSstsOrOwnIsAccess port access → Does access old new → (old.port q).sact slot ≡ false → (new.port q).sact slot ≡ false
  looking_inactive port q slot (Reading r v) old new is does u = laws.reads_keep_sact_clear q slot r v old new does u
  looking_inactive port q slot (Writing r v) old new (inl e) does u = laws.writes_keep_sact_clear (port_at q) slot r v old new (λ (s : r ≡ Px (port_at q) Sact). absurd (let z : Px port Is ≡ Px (port_at q) Sact = sym e ∙ s in cc)) does u
  looking_inactive port q slot (Writing r v) old new (inr is) does u = laws.writes_keep_sact_clear (port_at q) slot r v old new (λ (s : r ≡ Px (port_at q) Sact). absurd (let z : reg.Is ≡ Px (port_at q) Sact = sym is.0 ∙ s in cc)) does u
  looking_inactive port q slot (Loading at bytes) old new is does u = absurd is
  looking_inactive port q slot (Storing at bytes) old new is does u = absurd is

  pub looks_inactive : (port : Port) (q slot : ℕ) (old new : Device) → IsDrivenBy (IsPxisSstsOrOwnIsAccess port) old new → (old.port q).sact slot ≡ false → (new.port q).sact slot ≡ false
  looks_inactive port q slot =
      kept (λ x y. (x.port q).sact slot ≡ false → (y.port q).sact slot ≡ false) (λ d h. h) (λ x y z p q h. q (p h)) (IsPxisSstsOrOwnIsAccess port) (looking_inactive port q slot)

  -- ---- a port that runs well

  -- where nothing goes wrong in the whole, nothing does in the parts
  pub calm_parts : (port : ℕ) (a b c : Device) → TapeGrows a b → TapeGrows b c → Undisturbed port a c → Undisturbed port a b × Undisturbed port b c
  calm_parts port a b c p q u = laws.tape.undisturbed_in_parts port a b c p.0 q.0 p.1 q.1 u

  service_well : (port : Port) (access : Access) (old new : Device) → IsOn old → WritesOnlyHbaIsPxIsCiOrSact access → Does access old new → Undisturbed port.0 old new → RunsWell (old.port port.0) → RunsWell (new.port port.0)
  service_well port access old new on is does calm well =
      laws.started_quiet_port_runs_well (new.port port.0)
      (laws.access_keeps_started port access old new on.no_reset (λ v e. absurd (subst (DoesNotWrite (Px port Cmd)) e (spares_port port Cmd (λ e. cc) (λ e. cc) (λ e. cc) access is) refl))
      (spares_port port Sctl (λ e. cc) (λ e. cc) (λ e. cc) access is) calm does (laws.runs_well_is_started (old.port port.0) well))
      (laws.stays_clear_shows_no_trouble (old.port port.0) (new.port port.0) (laws.access_keeps_error_bits_clear port access old new on.no_reset well.no_link_is_due calm does) well.shows_no_trouble)

  pub services_well : (port : Port) (old new : Device) → IsOn old → IsDrivenBy WritesOnlyHbaIsPxIsCiOrSact old new → Undisturbed port.0 old new → RunsWell (old.port port.0) → RunsWell (new.port port.0)
  services_well port old new on a =
      (services_keep (StaysWell port.0) (λ d. (laws.tape.growth_is_reflexive d, λ calm well. well))
      (λ x y z p q. (laws.tape.growth_is_transitive x y z p.0 q.0, λ calm well. let parts = calm_parts port.0 x y z p.0 q.0 calm in q.1 parts.1 (p.1 parts.0 well)))
      (λ access x y ready is does. (laws.tape.access_grows access x y does, λ calm well. service_well port access x y ready is does calm well))
      old new on a).0.1

  -- ---- a machine agrees on

  pub services_agree : (uses : SlotStates) (old new : Device) → IsSimulated WritesOnlyHbaIsPxIsCiOrSact (SameSlotStates uses) old new → SomeMachineAgrees uses old → SomeMachineAgrees uses new
  services_agree uses old new followed a = laws.fragments.some_machine_agrees (ServingAnyPortWithSlotsUsedSo uses) (λ uses. uses) uses old new refl followed a

  -- ---- what tells of trouble

  pub errors_stay : (port : Port) (old new : Device) → IsOn old → IsDrivenBy (WritesOnlyHbaIsCiSactOrOtherPxIs port) old new → KeepsSetBitsOfPxisAndSerrNX (old.port port.0) (new.port port.0)
  errors_stay port old new on a =
      (kept_on laws (λ x y. KeepsSetBitsOfPxisAndSerrNX (x.port port.0) (y.port port.0)) (λ d. record { set_pxis_bits_stay_set = λ place h. h; serr_n_is_kept = λ h. h; serr_x_is_kept = λ h. h })
      (λ x y z p q. record { set_pxis_bits_stay_set = λ place h. q.set_pxis_bits_stay_set place (p.set_pxis_bits_stay_set place h); serr_n_is_kept = λ h. q.serr_n_is_kept (p.serr_n_is_kept h); serr_x_is_kept = λ h. q.serr_x_is_kept (p.serr_x_is_kept h) })
      (WritesOnlyHbaIsCiSactOrOtherPxIs port) (λ access is. spares_ghc access is.0)
      (λ access x y ready is does.
      let news = laws.access_keeps_serr_changes port access x y ready.no_reset (spares_port port Serr (λ e. cc) (λ e. cc) (λ e. cc) access is.0) does in
      record { set_pxis_bits_stay_set = laws.access_keeps_causes port access x y ready.no_reset is.1 does; serr_n_is_kept = news.0; serr_x_is_kept = news.1 })
      old new on a).0
