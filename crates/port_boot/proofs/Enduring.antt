-- What goes on over accesses that leave PxSCTL alone.
use Rattle.std.proofs.Common.{ℕ, ◌≡◌, false, [], ◌∷◌, inl, inr, refl, sym, subst, arith}
use Rattle.ata_types.specs.declared.Port.{Port}
use Rattle.hba_regs.specs.declared.reg.Reg.TheVariants.{Ghc, Px}
use Rattle.hba_regs.specs.declared.reg.PortReg.TheVariants.{Cmd, Sctl}
use Rattle.adapter.specs.Access.{Access, Does, DoesAll}
use Rattle.adapter.specs.Device.{Device}
use Rattle.adapter.specs.Rules.{IsOn}
use Rattle.refinement.specs.Errors.{ErrorBitsRiseByErrors}
use Rattle.refinement.specs.PortFacts.{Undisturbed, RunsWell}
use Rattle.refinement.specs.PreservedParts.{DoesNotWrite}
use Rattle.refinement.specs.StartedPort.{IsUpForStart}
use Rattle.refinement.specs.Fragments.{TapeGrows}
use Rattle.port_boot.specs.States.{BitsRiseWithCause, StaysRunningIfUndisturbed}
use Rattle.port_boot.specs.Laws.{Laws}
use Rattle.std.specs.List.{All}
use Rattle.std.proofs.lemmas.List.Elements.{All-head, All-tail}
use Rattle.std.specs.Prelude.{List}
use Rattle.port_boot.proofs.Stretching.{calm_in_parts}
use Rattle.std.proofs.lemmas.Bool.{cases_eq}

-- a link that is up stays so where nothing goes wrong
pub record Endures (port : ℕ) (old new : Device) : Type 0 where
  pub grows : TapeGrows old new
  pub goes : BitsRiseWithCause port old new
  pub up : Undisturbed port old new → IsUpForStart (old.port port) → IsUpForStart (new.port port)

-- a port that runs does so still
pub record Lasts (port : ℕ) (old new : Device) : Type 0 where
  pub grows : TapeGrows old new
  pub runs : StaysRunningIfUndisturbed port old new

module _ (laws : Laws) where
  pub errors_more : (port : ℕ) (old mid new : Device) → TapeGrows old mid → TapeGrows mid new → ErrorBitsRiseByErrors port old mid → ErrorBitsRiseByErrors port mid new → ErrorBitsRiseByErrors port old new
  errors_more port old mid new early late a b = record {
    fatal = λ none place low high clear.
        let parts = laws.tape.no_fatal_errors_in_parts port old mid new early.0 late.0 early.1 late.1 none in
        b.fatal parts.1 place low high (a.fatal parts.0 place low high clear);
    fault = λ none clear.
        let parts = laws.tape.no_faults_in_parts port old mid new early.0 late.0 early.1 late.1 none in
        b.fault parts.1 (a.fault parts.0 clear);
  }

  pub goes_more : (port : ℕ) (old mid new : Device) → TapeGrows old mid → TapeGrows mid new → BitsRiseWithCause port old mid → BitsRiseWithCause port mid new → BitsRiseWithCause port old new
  goes_more port old mid new early late a b = record {
    no_link_gets_due = λ h. b.no_link_gets_due (a.no_link_gets_due h);
    link_errors_rise_by_disks = λ h. laws.tape.link_errors_transitive port old mid new early late (a.link_errors_rise_by_disks h) (b.link_errors_rise_by_disks (a.no_link_gets_due h));
    error_bits_rise_by_errors = errors_more port old mid new early late a.error_bits_rise_by_errors b.error_bits_rise_by_errors;
  }

  goes_none : (port : ℕ) (d : Device) → BitsRiseWithCause port d d
  goes_none port d = record {
    no_link_gets_due = λ h. h;
    link_errors_rise_by_disks = λ h. laws.tape.link_errors_reflexive port d;
    error_bits_rise_by_errors = record { fatal = λ none place low high clear. clear; fault = λ none clear. clear };
  }

  pub endures_more : (port : ℕ) (a b c : Device) → Endures port a b → Endures port b c → Endures port a c
  endures_more port a b c x y = record {
    grows = laws.tape.growth_is_transitive a b c x.grows y.grows;
    goes = goes_more port a b c x.grows y.grows x.goes y.goes;
    up = λ calm h. let parts = calm_in_parts laws port a b c x.grows y.grows calm in y.up parts.1 (x.up parts.0 h);
  }

  pub lasts_more : (port : ℕ) (a b c : Device) → Lasts port a b → Lasts port b c → Lasts port a c
  lasts_more port a b c x y = record {
    grows = laws.tape.growth_is_transitive a b c x.grows y.grows;
    runs = record {
      bits_rise_with_cause = goes_more port a b c x.grows y.grows x.runs.bits_rise_with_cause y.runs.bits_rise_with_cause;
      undisturbed_stays_started = λ calm h. let parts = calm_in_parts laws port a b c x.grows y.grows calm in y.runs.undisturbed_stays_started parts.1 (x.runs.undisturbed_stays_started parts.0 h);
      faults_are_on_record = λ h. y.runs.faults_are_on_record (x.runs.faults_are_on_record h);
    };
  }

  -- ---- one access

  module _ (port : Port) (access : Access) (old new : Device) (on : IsOn old) (control : DoesNotWrite (Px port Sctl) access) (does : Does access old new) where
    goes_access : BitsRiseWithCause port.0 old new
    goes_access = record {
      no_link_gets_due = λ h. laws.tape.access_but_sctl_write_makes_no_link_due port access old new on.no_reset h control does;
      link_errors_rise_by_disks = λ h. laws.tape.access_raises_link_errors_by_disks port access old new on.no_reset h does;
      error_bits_rise_by_errors = laws.access_changes_by_errors port access old new does;
    }

    pub endures_access : Endures port.0 old new
    endures_access = record {
      grows = laws.tape.access_grows access old new does;
      goes = goes_access;
      up = λ calm h. laws.access_keeps_up port access old new on.no_reset control calm does h;
    }

    pub lasts_access : DoesNotWrite (Px port Cmd) access → Lasts port.0 old new
    lasts_access command = record {
      grows = laws.tape.access_grows access old new does;
      runs = record {
        bits_rise_with_cause = goes_access;
        undisturbed_stays_started = λ calm h. laws.access_keeps_started port access old new on.no_reset
            (λ v is. absurd (subst (DoesNotWrite (Px port Cmd)) is command refl)) control calm does h;
        faults_are_on_record = λ h. laws.access_keeps_fault_record port access old new command control does h;
      };
    }

  -- ---- stretches

  later : (access : Access) (old new : Device) → IsOn old → DoesNotWrite Ghc access → Does access old new → IsOn new
  later access old new on spares does = laws.access_keeps_on access old new on (λ v is. absurd (subst (DoesNotWrite Ghc) is spares refl)) does

  pub endures : (port : Port) (accesses : List Access) (old new : Device) → IsOn old → DoesAll accesses old new → All (DoesNotWrite Ghc) accesses → All (DoesNotWrite (Px port Sctl)) accesses → Endures port.0 old new
  endures port [] old new on is host control = subst (Endures port.0 old) (sym is) (record { grows = laws.tape.growth_is_reflexive old; goes = goes_none port.0 old; up = λ calm h. h })
  endures port (access ∷ accesses) old new on (mid, does, rest) host control =
      endures_more port.0 old mid new (endures_access port access old mid on (All-head (DoesNotWrite (Px port Sctl)) access accesses control) does)
      (endures port accesses mid new (later access old mid on (All-head (DoesNotWrite Ghc) access accesses host) does) rest (All-tail (DoesNotWrite Ghc) access accesses host)
      (All-tail (DoesNotWrite (Px port Sctl)) access accesses control))

  pub lasts : (port : Port) (accesses : List Access) (old new : Device) → IsOn old → DoesAll accesses old new → All (DoesNotWrite Ghc) accesses → All (DoesNotWrite (Px port Sctl)) accesses →
      All (DoesNotWrite (Px port Cmd)) accesses → Lasts port.0 old new
  lasts port [] old new on is host control command =
      subst (Lasts port.0 old) (sym is) (record { grows = laws.tape.growth_is_reflexive old; runs = record { bits_rise_with_cause = goes_none port.0 old; undisturbed_stays_started = λ calm h. h; faults_are_on_record = λ h. h } })
  lasts port (access ∷ accesses) old new on (mid, does, rest) host control command =
      lasts_more port.0 old mid new
      (lasts_access port access old mid on (All-head (DoesNotWrite (Px port Sctl)) access accesses control) does (All-head (DoesNotWrite (Px port Cmd)) access accesses command))
      (lasts port accesses mid new (later access old mid on (All-head (DoesNotWrite Ghc) access accesses host) does) rest (All-tail (DoesNotWrite Ghc) access accesses host)
      (All-tail (DoesNotWrite (Px port Sctl)) access accesses control) (All-tail (DoesNotWrite (Px port Cmd)) access accesses command))

  -- a port that runs well runs on so, where nothing goes wrong on it: no bit tells of trouble either
  pub well_on : (port : ℕ) (old new : Device) → StaysRunningIfUndisturbed port old new → Undisturbed port old new → RunsWell (old.port port) → RunsWell (new.port port)
  well_on port old new runs calm well =
      let none = laws.undisturbed_has_no_plug_events port old new calm in
      let disks = runs.bits_rise_with_cause.link_errors_rise_by_disks well.no_link_is_due in
      laws.started_quiet_port_runs_well (new.port port) (runs.undisturbed_stays_started calm (laws.runs_well_is_started (old.port port) well)) (record {
        serr_n_is_clear = disks.serr_n_rises_by_plug_events none well.shows_no_trouble.serr_n_is_clear;
        serr_x_is_clear = disks.serr_x_rises_by_disk_coming (laws.tape.no_plug_event_no_disk port old new none) well.shows_no_trouble.serr_x_is_clear;
        bits_27_to_30_are_clear = λ place low high. elim (cases_eq place 30) [
          | inl e ↦
              let P : ℕ → Type 0 = λ k. (new.port port).is k ≡ false in
              subst P (sym e) (runs.bits_rise_with_cause.error_bits_rise_by_errors.fault (laws.undisturbed_has_no_fault port old new calm) (well.shows_no_trouble.bits_27_to_30_are_clear 30 (omega arith) (omega arith)))
          | inr other ↦ runs.bits_rise_with_cause.error_bits_rise_by_errors.fatal (laws.undisturbed_has_no_fatal port old new calm) place low (omega (arith, high, other)) (well.shows_no_trouble.bits_27_to_30_are_clear place low high)
        ];
      })
