-- What goes on over a recovery's accesses, and over those that ask for the log.
use Rattle.std.proofs.Common.{ℕ, ◌≡◌, ◌≢◌, ◌≤◌, ◌<◌, ◌+◌, false, List, [], ◌∷◌, length, inl, inr, refl, sym, ◌∙◌, subst, arith}
use Rattle.std.specs.Prelude.{All}
use Rattle.std.proofs.lemmas.List.Elements.{All-head, All-tail}
use Rattle.ata_types.specs.declared.Port.{Port}
use Rattle.ata_types.specs.declared.memory.TheConstants.{DRIVER_BYTES}
use Rattle.hba_regs.specs.declared.reg.PortReg.{PortReg}
use Rattle.hba_regs.specs.declared.reg.PortReg.TheVariants.{Ci, Cmd, Ie, Is, Sact, Sctl, Serr}
use Rattle.hba_regs.specs.declared.reg.Reg.TheVariants.{Ghc, Px}
use Rattle.adapter.specs.Access.{Access, Does, DoesAll}
use Rattle.adapter.specs.Access.Access.{Reading, Writing, Loading, Storing}
use Rattle.adapter.specs.Device.{Device, DevicePort}
use Rattle.adapter.specs.Rules.{IsOn}
use Rattle.refinement.specs.Fragments.{TapeGrows, AccessesNoOtherPort}
use Rattle.refinement.specs.Errors.{LinkErrorsRiseByDisks, NoFaults, NoFatalErrors}
use Rattle.refinement.specs.PreservedParts.{NoPlugEvents, DoesNotWrite}
use Rattle.refinement.specs.HaltRecovery.{IsLinked, RunsLinked}
use Rattle.refinement.specs.StartedPort.{WritesCmdOnlyWithStSet}
use Rattle.disk_page.specs.PageRequests.{IsPxciOrSlot0PageMemoryAccess}
use Rattle.error_recovery.specs.Laws.{Laws}
use Rattle.error_recovery.specs.Laws.RegisterSet.{RecoveryRegisters}
use Rattle.error_recovery.specs.Recovery.{IsCmdSerrOrIs, IsRecoveryAccess}

-- ---- which registers are spared

-- of the registers that are asked by, PxCI alone is written
asking_spares : (port : Port) (r : PortReg) → r ≢ Ci → (access : Access) → IsPxciOrSlot0PageMemoryAccess port access → DoesNotWrite (Px port r) access
asking_spares port r other (Reading q v) is = tt
asking_spares port r other (Writing q v) is = λ (e : q ≡ Px port r). let both : Px port r ≡ Px port Ci = sym e ∙ is.0 in let same : r ≡ Ci = cc in other same
asking_spares port r other (Loading at bytes) is = tt
asking_spares port r other (Storing at bytes) is = tt

not_link : IsCmdSerrOrIs Sctl → ⊥
not_link (inl e) = absurd (let k : Sctl ≡ Cmd = e in cc)
not_link (inr (inl e)) = absurd (let k : Sctl ≡ Serr = e in cc)
not_link (inr (inr e)) = absurd (let k : Sctl ≡ Is = e in cc)

not_enabled : IsCmdSerrOrIs Ie → ⊥
not_enabled (inl e) = absurd (let k : Ie ≡ Cmd = e in cc)
not_enabled (inr (inl e)) = absurd (let k : Ie ≡ Serr = e in cc)
not_enabled (inr (inr e)) = absurd (let k : Ie ≡ Is = e in cc)

not_active : IsCmdSerrOrIs Sact → ⊥
not_active (inl e) = absurd (let k : Sact ≡ Cmd = e in cc)
not_active (inr (inl e)) = absurd (let k : Sact ≡ Serr = e in cc)
not_active (inr (inr e)) = absurd (let k : Sact ≡ Is = e in cc)

-- ---- what is loaded and stored

-- the page is in the port's scratch frame
pub loads_inside : (port : Port) (at : ℕ) (bytes : List ℕ) → port.0 < 4 → IsRecoveryAccess port (Loading at bytes) → at + length bytes ≤ DRIVER_BYTES
loads_inside port at bytes small (inl is) = absurd is
loads_inside port at bytes small (inr (place, size)) = omega (arith, small, place, size)

-- header and table of slot 0 are in its list and its tables
pub stores_inside : (port : Port) (at : ℕ) (bytes : List ℕ) → port.0 < 4 → IsRecoveryAccess port (Storing at bytes) → at + length bytes ≤ DRIVER_BYTES
stores_inside port at bytes small (inl is) = absurd is
stores_inside port at bytes small (inr (inl (place, size, zero_count))) = omega (arith, small, place, size)
stores_inside port at bytes small (inr (inr (from, to))) = omega (arith, small, to)

-- ---- what goes on

-- The adapter is on, and the port's link and its controls go on.
pub record Goes (port : Port) (old new : Device) : Type 0 where
  pub on : IsOn new
  pub grows : TapeGrows old new
  pub det : (new.port port.0).sctl_det ≡ (old.port port.0).sctl_det
  pub written : (new.port port.0).notes.sctl_written_at ≡ (old.port port.0).notes.sctl_written_at
  pub enabled : (new.port port.0).ie ≡ (old.port port.0).ie
  pub undue : (old.port port.0).link_due ≡ false → (new.port port.0).link_due ≡ false
  pub changes : (old.port port.0).link_due ≡ false → LinkErrorsRiseByDisks port.0 old new
  pub linked : NoPlugEvents port.0 old new → IsLinked (old.port port.0) → IsLinked (new.port port.0)

abbrev ShowsNoFatal : DevicePort → Type 0
ShowsNoFatal p = (place : ℕ) → 27 ≤ place → place ≤ 29 → p.is place ≡ false

-- Trouble is shown, and no other is; and where none comes that stops it, the port runs on.
pub record Asks (port : Port) (old new : Device) : Type 0 where
  pub grows : TapeGrows old new
  pub raises : NoFatalErrors port.0 old new → ShowsNoFatal (old.port port.0) → ShowsNoFatal (new.port port.0)
  pub fault : (new.port port.0).is 30 ≡ false → ((old.port port.0).is 30 ≡ false) × NoFaults port.0 old new
  pub fatal : ShowsNoFatal (new.port port.0) → ShowsNoFatal (old.port port.0) × NoFatalErrors port.0 old new
  pub disk : (new.port port.0).serr_n ≡ false → ((old.port port.0).serr_n ≡ false) × NoPlugEvents port.0 old new
  pub runs : NoPlugEvents port.0 old new → NoFatalErrors port.0 old new → RunsLinked (old.port port.0) → RunsLinked (new.port port.0)

module _ (laws : Laws) where
  recovering_spares : (port : Port) (r : PortReg) → (IsCmdSerrOrIs r → ⊥) → r ≢ Ci → (access : Access) → IsRecoveryAccess port access → DoesNotWrite (Px port r) access
  recovering_spares port r not_written other access (inl is) = laws.control_spares_other_registers RecoveryRegisters port r not_written access is
  recovering_spares port r not_written other access (inr is) = asking_spares port r other access is

  pub recovering_is_of : (port : Port) (access : Access) → IsRecoveryAccess port access → AccessesNoOtherPort port access
  recovering_is_of port access (inl is) = laws.control_spares_other_ports RecoveryRegisters port access is
  recovering_is_of port access (inr is) = laws.asking_spares_other_ports port access is

  pub recovering_spares_host : (port : Port) (access : Access) → IsRecoveryAccess port access → DoesNotWrite Ghc access
  recovering_spares_host port access is = laws.accesses_of_port_spare_ghc port access (recovering_is_of port access is)

  pub spares_link : (port : Port) (access : Access) → IsRecoveryAccess port access → DoesNotWrite (Px port Sctl) access
  spares_link port = recovering_spares port Sctl not_link (λ e. absurd (let k : Sctl ≡ Ci = e in cc))

  pub spares_interrupts : (port : Port) (access : Access) → IsRecoveryAccess port access → DoesNotWrite (Px port Ie) access
  spares_interrupts port = recovering_spares port Ie not_enabled (λ e. absurd (let k : Ie ≡ Ci = e in cc))

  pub spares_active : (port : Port) (access : Access) → IsRecoveryAccess port access → DoesNotWrite (Px port Sact) access
  spares_active port = recovering_spares port Sact not_active (λ e. absurd (let k : Sact ≡ Ci = e in cc))

  -- an adapter that is on stays on
  on_after : (port : Port) (access : Access) (old new : Device) → IsOn old → AccessesNoOtherPort port access → Does access old new → IsOn new
  on_after port access old new on is does = laws.access_keeps_on access old new on (λ v e. absurd (subst (DoesNotWrite Ghc) e (laws.accesses_of_port_spare_ghc port access is) refl)) does

  pub plugs_in_parts : (port : ℕ) (old mid new : Device) → TapeGrows old mid → TapeGrows mid new → NoPlugEvents port old new → NoPlugEvents port old mid × NoPlugEvents port mid new
  plugs_in_parts port old mid new early late none = laws.tape.no_plug_events_in_parts port old mid new early.0 late.0 early.1 late.1 none

  pub fatal_in_parts : (port : ℕ) (old mid new : Device) → TapeGrows old mid → TapeGrows mid new → NoFatalErrors port old new → NoFatalErrors port old mid × NoFatalErrors port mid new
  fatal_in_parts port old mid new early late none = laws.tape.no_fatal_errors_in_parts port old mid new early.0 late.0 early.1 late.1 none

  goes_none : (port : Port) (d : Device) → IsOn d → Goes port d d
  goes_none port d on = record {
    on = on;
    grows = laws.tape.growth_is_reflexive d;
    det = refl;
    written = refl;
    enabled = refl;
    undue = λ h. h;
    changes = λ h. laws.tape.link_errors_reflexive port.0 d;
    linked = λ none h. h;
  }

  pub goes_more : (port : Port) (a b c : Device) → Goes port a b → Goes port b c → Goes port a c
  goes_more port a b c x y = record {
    on = y.on;
    grows = laws.tape.growth_is_transitive a b c x.grows y.grows;
    det = y.det ∙ x.det;
    written = y.written ∙ x.written;
    enabled = y.enabled ∙ x.enabled;
    undue = λ h. y.undue (x.undue h);
    changes = λ h. laws.tape.link_errors_transitive port.0 a b c x.grows y.grows (x.changes h) (y.changes (x.undue h));
    linked = λ none h. let n = plugs_in_parts port.0 a b c x.grows y.grows none in y.linked n.1 (x.linked n.0 h);
  }

  access_goes : (port : Port) (access : Access) (old new : Device) → IsOn old → IsRecoveryAccess port access → Does access old new → Goes port old new
  access_goes port access old new on is does =
      let link = spares_link port access is in
      let enabled = spares_interrupts port access is in
      let c = laws.access_controls port access old new on.no_reset does in
      record {
        on = on_after port access old new on (recovering_is_of port access is) does;
        grows = laws.tape.access_grows access old new does;
        det = (c.control link).0;
        written = (c.control link).1;
        enabled = c.interrupt_enable enabled;
        undue = λ h. laws.tape.access_but_sctl_write_makes_no_link_due port access old new on.no_reset h link does;
        changes = λ h. laws.tape.access_raises_link_errors_by_disks port access old new on.no_reset h does;
        linked = λ none h. laws.access_keeps_linked port access old new on.no_reset link none does h;
      }

  pub goes_over : (port : Port) (accesses : List Access) (old new : Device) → IsOn old → All (IsRecoveryAccess port) accesses → DoesAll accesses old new → Goes port old new
  goes_over port [] old new on all is = subst (Goes port old) (sym is) (goes_none port old on)
  goes_over port (access ∷ accesses) old new on all (mid, does, rest) =
      let first = access_goes port access old mid on (All-head (IsRecoveryAccess port) access accesses all) does in
      goes_more port old mid new first (goes_over port accesses mid new first.on (All-tail (IsRecoveryAccess port) access accesses all) rest)

  -- ---- while the log is asked for

  asks_none : (port : Port) (d : Device) → Asks port d d
  asks_none port d = record {
    grows = laws.tape.growth_is_reflexive d;
    raises = λ none h. h;
    fault = λ h. (h, laws.tape.no_faults_reflexive port.0 d);
    fatal = λ h. (h, laws.tape.no_fatal_errors_reflexive port.0 d);
    disk = λ h. (h, laws.tape.no_plug_events_reflexive port.0 d);
    runs = λ none calm h. h;
  }

  asks_more : (port : Port) (a b c : Device) → Asks port a b → Asks port b c → Asks port a c
  asks_more port a b c x y = record {
    grows = laws.tape.growth_is_transitive a b c x.grows y.grows;
    raises = λ none h. let n = fatal_in_parts port.0 a b c x.grows y.grows none in y.raises n.1 (x.raises n.0 h);
    fault = λ h. let late = y.fault h in let early = x.fault late.0 in (early.0, laws.tape.no_faults_transitive port.0 a b c early.1 late.1);
    fatal = λ h. let late = y.fatal h in let early = x.fatal late.0 in (early.0, laws.tape.no_fatal_errors_transitive port.0 a b c early.1 late.1);
    disk = λ h. let late = y.disk h in let early = x.disk late.0 in (early.0, laws.tape.no_plug_events_transitive port.0 a b c early.1 late.1);
    runs = λ none calm h.
        let n = plugs_in_parts port.0 a b c x.grows y.grows none in
        let m = fatal_in_parts port.0 a b c x.grows y.grows calm in
        y.runs n.1 m.1 (x.runs n.0 m.0 h);
  }

  access_asks : (port : Port) (access : Access) (old new : Device) → IsOn old → IsPxciOrSlot0PageMemoryAccess port access → Does access old new → Asks port old new
  access_asks port access old new on is does =
      let link = asking_spares port Sctl (λ e. absurd (let k : Sctl ≡ Ci = e in cc)) access is in
      let causes = asking_spares port Is (λ e. absurd (let k : Is ≡ Ci = e in cc)) access is in
      let errors = asking_spares port Serr (λ e. absurd (let k : Serr ≡ Ci = e in cc)) access is in
      let command = asking_spares port Cmd (λ e. absurd (let k : Cmd ≡ Ci = e in cc)) access is in
      let starts : WritesCmdOnlyWithStSet port access = λ v e. absurd (subst (DoesNotWrite (Px port Cmd)) e command refl) in
      record {
        grows = laws.tape.access_grows access old new does;
        raises = λ none h place from to. (laws.access_changes_by_errors port access old new does).fatal none place from to (h place from to);
        fault = λ h. laws.access_hides_no_fault port access old new on.no_reset causes does h;
        fatal = λ h. laws.access_hides_no_fatal port access old new on.no_reset causes does h;
        disk = λ h. laws.access_hides_no_plug_event port access old new on.no_reset errors does h;
        runs = λ none calm h. laws.access_runs_linked port access old new on.no_reset starts link none calm does h;
      }

  pub asks_over : (port : Port) (accesses : List Access) (old new : Device) → IsOn old → All (IsPxciOrSlot0PageMemoryAccess port) accesses → DoesAll accesses old new → Asks port old new
  asks_over port [] old new on all is = subst (Asks port old) (sym is) (asks_none port old)
  asks_over port (access ∷ accesses) old new on all (mid, does, rest) =
      let kind = All-head (IsPxciOrSlot0PageMemoryAccess port) access accesses all in
      let later = on_after port access old mid on (laws.asking_spares_other_ports port access kind) does in
      asks_more port old mid new (access_asks port access old mid on kind does) (asks_over port accesses mid new later (All-tail (IsPxciOrSlot0PageMemoryAccess port) access accesses all) rest)
