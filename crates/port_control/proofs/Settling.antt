-- What is left of a port that receives FISes while PxSERR and PxIS alone are written.
use Rattle.std.proofs.Common.{ℕ, ◌≡◌, false, [], ◌∷◌, inl, inr, refl, sym, ◌∙◌, subst}
use Rattle.ata_types.specs.declared.Port.{Port}
use Rattle.hba_regs.specs.declared.reg.PortReg.TheVariants.{Is, Cmd, Sctl, Serr}
use Rattle.hba_regs.specs.declared.reg.Reg.TheVariants.{Px, Ghc}
use Rattle.adapter.specs.Access.{Access, Does, DoesAll}
use Rattle.adapter.specs.Device.{Device}
use Rattle.adapter.specs.Rules.{IsOn}
use Rattle.refinement.specs.Fragments.{ReadsPortOrWrites, IsDrivenBy}
use Rattle.refinement.specs.Errors.{NoDiskComes, LinkErrorsRiseByDisks}
use Rattle.refinement.specs.PortFacts.{WhileLinkAwaitedCrIsClearAndDrqSet, IsCleanToStart}
use Rattle.refinement.specs.PreservedParts.{DoesNotWrite, NoPlugEvents}
use Rattle.refinement.specs.StartedPort.{IsUpForStart, IsStoppedAndUpForStartIfDet3, WritesCmdOnlyWithStClear}
use Rattle.refinement.specs.Fragments.{TapeGrows}
use Rattle.port_control.specs.Ports.{IsSerrOrIs, IsStoppedReceiving}
use Rattle.port_control.proofs.Using.{receiving_read, receiving_write}
use Rattle.std.specs.Prelude.{All, List}
use Rattle.std.proofs.lemmas.List.Elements.{All-head, All-tail}
use Rattle.port_control.specs.Laws.RegisterSet.{ClearingErrors}
use Rattle.port_control.specs.Laws.{Laws}

pub record Settles (port : Port) (old new : Device) : Type 0 where
  pub grows : TapeGrows old new
  pub receiving : IsStoppedReceiving port.0 (old.port port.0) → IsStoppedReceiving port.0 (new.port port.0)
  pub det : (new.port port.0).sctl_det ≡ (old.port port.0).sctl_det
  pub written : (new.port port.0).notes.sctl_written_at ≡ (old.port port.0).notes.sctl_written_at
  pub coming : NoDiskComes port.0 old new → IsStoppedAndUpForStartIfDet3 (old.port port.0) → IsStoppedAndUpForStartIfDet3 (new.port port.0)
  pub up : NoPlugEvents port.0 old new → IsStoppedReceiving port.0 (old.port port.0) → IsUpForStart (old.port port.0) → IsUpForStart (new.port port.0)
  pub calm : IsStoppedReceiving port.0 (old.port port.0) → (place : ℕ) → (old.port port.0).is place ≡ false → (new.port port.0).is place ≡ false
  pub awaited : WhileLinkAwaitedCrIsClearAndDrqSet (old.port port.0) → WhileLinkAwaitedCrIsClearAndDrqSet (new.port port.0)
  pub quiet : IsCleanToStart (old.port port.0) → IsCleanToStart (new.port port.0)
  pub undue : (old.port port.0).link_due ≡ false → (new.port port.0).link_due ≡ false
  pub change : (old.port port.0).link_due ≡ false → LinkErrorsRiseByDisks port.0 old new

-- what isn't written isn't ST
pub no_start : (port : Port) (access : Access) → DoesNotWrite (Px port Cmd) access → WritesCmdOnlyWithStClear port access
no_start port access spares v is = absurd (subst (DoesNotWrite (Px port Cmd)) is spares refl)

-- PxSCTL and PxCMD aren't written
spares_control : IsSerrOrIs Sctl → ⊥
spares_control (inl e) = absurd (let k : Sctl ≡ Serr = e in cc)
spares_control (inr e) = absurd (let k : Sctl ≡ Is = e in cc)

spares_command : IsSerrOrIs Cmd → ⊥
spares_command (inl e) = absurd (let k : Cmd ≡ Serr = e in cc)
spares_command (inr e) = absurd (let k : Cmd ≡ Is = e in cc)

module _ (laws : Laws) where
  -- ---- parts of a stretch

  module _ (port : ℕ) (old mid new : Device) (early : TapeGrows old mid) (late : TapeGrows mid new) where
    pub comes_in_parts : NoDiskComes port old new → NoDiskComes port old mid × NoDiskComes port mid new
    comes_in_parts none = laws.tape.no_disk_comes_in_parts port old mid new early.0 late.0 early.1 late.1 none

    pub plugs_in_parts : NoPlugEvents port old new → NoPlugEvents port old mid × NoPlugEvents port mid new
    plugs_in_parts none = laws.tape.no_plug_events_in_parts port old mid new early.0 late.0 early.1 late.1 none

  settles_none : (port : Port) (d : Device) → Settles port d d
  settles_none port d = record {
    grows = laws.tape.growth_is_reflexive d;
    receiving = λ h. h;
    det = refl;
    written = refl;
    coming = λ none h. h;
    up = λ none r h. h;
    calm = λ r place h. h;
    awaited = λ h. h;
    quiet = λ h. h;
    undue = λ h. h;
    change = λ h. laws.tape.link_errors_reflexive port.0 d;
  }

  pub settles_more : (port : Port) (a b c : Device) → Settles port a b → Settles port b c → Settles port a c
  settles_more port a b c x y = record {
    grows = laws.tape.growth_is_transitive a b c x.grows y.grows;
    receiving = λ h. y.receiving (x.receiving h);
    det = y.det ∙ x.det;
    written = y.written ∙ x.written;
    coming = λ none h. let n = comes_in_parts port.0 a b c x.grows y.grows none in y.coming n.1 (x.coming n.0 h);
    up = λ none r h. let n = plugs_in_parts port.0 a b c x.grows y.grows none in y.up n.1 (x.receiving r) (x.up n.0 r h);
    calm = λ r place h. y.calm (x.receiving r) place (x.calm r place h);
    awaited = λ h. y.awaited (x.awaited h);
    quiet = λ h. y.quiet (x.quiet h);
    undue = λ h. y.undue (x.undue h);
    change = λ h. laws.tape.link_errors_transitive port.0 a b c x.grows y.grows (x.change h) (y.change (x.undue h));
  }

  module _ (port : Port) (access : Access) (old new : Device) (on : IsOn old) (kind : ReadsPortOrWrites IsSerrOrIs port access) (does : Does access old new) where
    control : DoesNotWrite (Px port Sctl) access
    control = laws.control_spares_other_registers ClearingErrors port Sctl spares_control access kind

    command : WritesCmdOnlyWithStClear port access
    command = no_start port access (laws.control_spares_other_registers ClearingErrors port Cmd spares_command access kind)

    receives : IsStoppedReceiving port.0 (old.port port.0) → IsStoppedReceiving port.0 (new.port port.0)
    receives h = elim (laws.control_reads_or_writes ClearingErrors port access kind) [
      | inl (r, v, e) ↦ receiving_read laws port r v old new on.no_reset (subst (λ (a : Access). Does a old new) e does) h
      | inr (r, v, e, w) ↦ receiving_write laws port r v old new on.no_reset (inr w) (subst (λ (a : Access). Does a old new) e does) h
    ]

    quiets : IsCleanToStart (old.port port.0) → IsCleanToStart (new.port port.0)
    quiets q = elim (laws.control_reads_or_writes ClearingErrors port access kind) [
      | inl (r, v, e) ↦ laws.reads_keep_clean_to_start port.0 (Px port r) v old new (subst (λ (a : Access). Does a old new) e does) q
      | inr (r, v, e, w) ↦ laws.writes_keep_clean_to_start port (Px port r) v old new
          (λ (e : Px port r ≡ Px port Cmd). let same : r ≡ Cmd = cc in absurd (spares_command (subst IsSerrOrIs same w)))
          (λ (e : Px port r ≡ Px port Sctl). let same : r ≡ Sctl = cc in absurd (spares_control (subst IsSerrOrIs same w))) (subst (λ (a : Access). Does a old new) e does) q
    ]

    access_settles : Settles port old new
    access_settles =
        let c = laws.access_controls port access old new on.no_reset does in
        let up : NoPlugEvents port.0 old new → IsStoppedReceiving port.0 (old.port port.0) → IsUpForStart (old.port port.0) → IsUpForStart (new.port port.0) =
        λ none r h. laws.access_keeps_up port access old new on.no_reset r.stopped.engine_is_stopped.cr_is_clear command control none does h in
        record {
          grows = laws.tape.access_grows access old new does;
          receiving = receives;
          det = (c.control control).0;
          written = (c.control control).1;
          coming = λ none h. laws.access_keeps_coming_up port access old new command does none h;
          up = up;
          calm = λ r place h. laws.access_keeps_cause_clear port place access old new r.stopped.engine_is_stopped.cr_is_clear does h;
          awaited = λ h. laws.access_keeps_drq_till_link port access old new (laws.control_spares_other_registers ClearingErrors port Cmd spares_command access kind) control does h;
          quiet = quiets;
          undue = λ h. laws.tape.access_but_sctl_write_makes_no_link_due port access old new on.no_reset h control does;
          change = λ h. laws.tape.access_raises_link_errors_by_disks port access old new on.no_reset h does;
        }

  -- over a stretch
  settles_over : (port : Port) (accesses : List Access) (old new : Device) → IsOn old → All (ReadsPortOrWrites IsSerrOrIs port) accesses → DoesAll accesses old new → Settles port old new
  settles_over port [] old new on all is = subst (Settles port old) (sym is) (settles_none port old)
  settles_over port (access ∷ accesses) old new on all (mid, does, rest) =
      let kind = All-head (ReadsPortOrWrites IsSerrOrIs port) access accesses all in
      let host = laws.accesses_of_port_spare_ghc port access (laws.control_spares_other_ports ClearingErrors port access kind) in
      let later = laws.access_keeps_on access old mid on (λ v is. absurd (subst (DoesNotWrite Ghc) is host refl)) does in
      settles_more port old mid new (access_settles port access old mid on kind does) (settles_over port accesses mid new later (All-tail (ReadsPortOrWrites IsSerrOrIs port) access accesses all) rest)

  pub settles : (port : Port) (old new : Device) → IsOn old → IsDrivenBy (ReadsPortOrWrites IsSerrOrIs port) old new → Settles port old new
  settles port old new on driven = settles_over port driven.accesses old new on driven.accesses_are_of_kind driven.all_are_done
