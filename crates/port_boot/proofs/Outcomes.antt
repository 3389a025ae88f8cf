-- What a port shows of trouble after a boot, whatever comes of it.
use Rattle.std.proofs.Common.{ℕ, ◌≡◌, ◌≢◌, ◌≤◌, ◌<◌, ◌⊎◌, false, inl, inr, List, Option, length, refl, sym, ◌∙◌, subst, arith}
use Rattle.std.specs.Prelude.{Result, Ok, Err, IfOk, IfErr}
use Rattle.std.specs.Result.{IsErrAnd}
use Rattle.std.proofs.lemmas.Bool.{cases_eq}
use Rattle.ata_types.specs.declared.Port.{Port}
use Rattle.ata_types.specs.declared.PortState.{PortState}
use Rattle.ata_types.specs.declared.PortState.TheVariants.{Absent, Ready, Foreign, Unfit, Dead}
use Rattle.hba_regs.specs.declared.reg.Reg.{Reg}
use Rattle.hba_regs.specs.declared.reg.Reg.TheVariants.{Ghc, Px}
use Rattle.hba_regs.specs.declared.reg.PortReg.TheVariants.{Ci, Cmd, Ie, Sctl}
use Rattle.adapter.specs.Access.{Access, Writes}
use Rattle.adapter.specs.Access.Access.{Reading, Writing, Loading, Storing}
use Rattle.adapter.specs.Device.{Device}
use Rattle.adapter.specs.Rules.{IsOn}
use Rattle.refinement.specs.Fragments.{ReadsPortOrWrites, IsDrivenBy}
use Rattle.refinement.specs.Errors.{NoFatalErrors, NoFaults}
use Rattle.refinement.specs.PortFacts.{Undisturbed, ShowsNoTrouble}
use Rattle.refinement.specs.PreservedParts.{NoPlugEvents, DoesNotWrite}
use Rattle.refinement.specs.StartedPort.{IsStarted}
use Rattle.refinement.specs.Fragments.{TapeGrows}
use Rattle.disk_page.specs.PageRequests.{IsPxciOrSlot0PageMemoryAccess, LeavesPortWhileAsking}
use Rattle.port_control.specs.Engines.{Stops}
use Rattle.port_control.specs.Ports.{IsCommandRegister, SerrShowsOnlyNewPlugs}
use Rattle.port_control.specs.declared.PortFault.{PortFault}
use Rattle.port_control.specs.declared.PortFault.TheVariants.{NoDevice, Busy, EngineStuck, NotAta}
use Rattle.identify.specs.IdentityPage.{unfit_number}
use Rattle.identify.specs.declared.DiskInfo.{DiskInfo}
use Rattle.identify.specs.declared.Unfit.{Unfit as Fault}
use Rattle.identify.specs.declared.Unfit.TheVariants.{BadChecksum, Word83, No48Bit, SectorSize, NoFlush, NoSectors}
use Rattle.port_boot.specs.Outcomes.{EndsReady, EndsUnready, FailsToIdentify, Identifies, BootBringsUp}
use Rattle.port_boot.specs.States.{IsStateOfFault, IsStateByPage, IsWrittenInBootButCi, IsBeforeStart, IsStoppedAsOrStuck, IsBootAccess, IsBroughtUp, AsksDiskThenEnables, BringsReady, EndsBeforeStart, EndsAfterStart, IsStateStoppedAfterStart, ShowsOnlyGainedErrors, BitsRiseWithCause, StaysRunningIfUndisturbed, StopsWithLinkUpIfUndisturbed}
use Rattle.port_boot.proofs.Identifying.{whole_ended, whole_ready}
use Rattle.port_boot.proofs.Staying.{boot_driven}
use Rattle.port_boot.proofs.Enduring.{Endures, Lasts, endures, lasts, lasts_access, lasts_more, goes_more}
use Rattle.port_boot.specs.Laws.{Laws}
use Rattle.port_boot.proofs.Stretching.{driven_grows, calm_in_parts, comes_in_parts, plugs_in_parts}
use Rattle.std.proofs.lemmas.List.Elements.{All-weaker}
use Rattle.port_boot.specs.Laws.RegisterSet.{CommandRegister}

asking_spares : (port : Port) (spared : Reg) → Px port Ci ≢ spared → (access : Access) → IsPxciOrSlot0PageMemoryAccess port access → DoesNotWrite spared access
asking_spares port spared other (Reading r v) is = tt
asking_spares port spared other (Writing r v) is = λ e. other (sym is.0 ∙ e)
asking_spares port spared other (Loading at bytes) is = tt
asking_spares port spared other (Storing at bytes) is = tt

no_control : IsCommandRegister Sctl → ⊥
no_control e = absurd (let k : Sctl ≡ Cmd = e in cc)

-- a port that wasn't started isn't in a late state
pub early_is_not_late : (port : Port) (state : PortState) (old new : Device) → (state ≡ Dead) ⊎ EndsBeforeStart port state old new → IsStateStoppedAfterStart state → EndsAfterStart port old new
early_is_not_late port state old new (inl dead) late = absurd (subst IsStateStoppedAfterStart dead late)
early_is_not_late port state old new (inr e) late = absurd (by e.fault e.state_is)
  where
    by : (fault : PortFault) → IsStateOfFault state fault → ⊥
    by NoDevice told = subst IsStateStoppedAfterStart told late
    by Busy told = let l : IsStateStoppedAfterStart (Unfit 7) = subst IsStateStoppedAfterStart told late in l.0 refl
    by EngineStuck told = subst IsStateStoppedAfterStart told late
    by (NotAta signature) told = let l : IsStateStoppedAfterStart (Unfit 8) = subst IsStateStoppedAfterStart told late in l.1 refl

-- if it is in an early state, that is how it ended
pub early_alone : (port : Port) (state : PortState) (old new : Device) → (state ≡ Dead) ⊎ EndsBeforeStart port state old new → IsBeforeStart state → EndsBeforeStart port state old new
early_alone port state old new (inl dead) early = absurd (subst IsBeforeStart dead early)
early_alone port state old new (inr e) early = e

-- a port that was asked for its page doesn't end early, whatever is made of the page
pub halted_late : (port : Port) (wanted state : PortState) (old new : Device) → (IsBeforeStart wanted → ⊥) → IsStoppedAsOrStuck port wanted state old new → IsBeforeStart state → ⊥
halted_late port wanted state old new late (inl x) early = late (subst IsBeforeStart x.0 early)
halted_late port wanted state old new late (inr x) early = subst IsBeforeStart x.0 early

pub no_page_late : IsBeforeStart (Unfit 9) → ⊥
no_page_late (inl e) = absurd (omega (arith, e))
no_page_late (inr e) = absurd (omega (arith, e))

no_fault : (n small : ℕ) → n ≡ small → small < 7 → IsBeforeStart (Unfit n) → ⊥
no_fault n small is low (inl e) = absurd (omega (arith, is, low, e))
no_fault n small is low (inr e) = absurd (omega (arith, is, low, e))

fault_late : (n : ℕ) (fault : Fault) → n ≡ unfit_number fault → IsBeforeStart (Unfit n) → ⊥
fault_late n BadChecksum is early = no_fault n 1 is (omega arith) early
fault_late n Word83 is early = no_fault n 2 is (omega arith) early
fault_late n No48Bit is early = no_fault n 3 is (omega arith) early
fault_late n SectorSize is early = no_fault n 4 is (omega arith) early
fault_late n NoFlush is early = no_fault n 5 is (omega arith) early
fault_late n NoSectors is early = no_fault n 6 is (omega arith) early

pub judged_late : (wanted : Option (List ℕ)) (state : PortState) (page : List ℕ) → IsStateByPage wanted state page → IsBeforeStart state → ⊥
judged_late wanted Absent page judged early = absurd judged
judged_late wanted Ready page judged early = absurd judged
judged_late wanted Dead page judged early = absurd judged
judged_late wanted Foreign page judged early = early
judged_late wanted (Unfit n) page judged early = fault_late n judged.0 judged.2 early

-- what is said of a state that was handed on
pub handed_on : {T : Type 0} (P : PortState → Type 0) (result : Result T PortState) (state : PortState) → IsErrAnd result (λ s. s ≡ state) → P state → IfErr result P
handed_on P (Ok x) state is h = tt
handed_on P (Err s) state is h = subst P (sym is) h

module _ (laws : Laws) where
  -- ---- while the disk is asked for its page

  module _ (port : Port) (start old mid : Device) (up : IsBroughtUp port start old) (driven : IsDrivenBy (IsPxciOrSlot0PageMemoryAccess port) old mid) where
    asked : Lasts port.0 old mid
    asked =
        let spares = λ (r : Reg) (other : Px port Ci ≢ r). All-weaker (IsPxciOrSlot0PageMemoryAccess port) (DoesNotWrite r) (asking_spares port r other) driven.accesses driven.accesses_are_of_kind in
        lasts laws port driven.accesses old mid up.bootable.adapter_is_on driven.all_are_done (spares Ghc (λ (e : Px port Ci ≡ Ghc). absurd (cc)))
        (spares (Px port Sctl) (λ (e : Px port Ci ≡ Px port Sctl). absurd (cc))) (spares (Px port Cmd) (λ (e : Px port Ci ≡ Px port Cmd). absurd (cc)))

    -- and then PxIE is written
    pub told_runs_on : (v : ℕ) (new : Device) → IsOn mid → Writes (Px port Ie) v mid new → StaysRunningIfUndisturbed port.0 old new
    told_runs_on v new on call =
        (lasts_more laws port.0 old mid new asked
        (lasts_access laws port (Writing (Px port Ie) v) mid new on
        (λ (e : Px port Ie ≡ Px port Sctl). absurd (cc)) call (λ (e : Px port Ie ≡ Px port Cmd). absurd (cc)))).runs

    -- or the port is stopped
    pub stops_then : (new : Device) → IsOn mid → LeavesPortWhileAsking port.0 old mid → IsDrivenBy (ReadsPortOrWrites IsCommandRegister port) mid new → StopsWithLinkUpIfUndisturbed port old new
    stops_then new on l stop =
        let late : Endures port.0 mid new = endures laws port stop.accesses mid new on stop.all_are_done
        (All-weaker (ReadsPortOrWrites IsCommandRegister port) (DoesNotWrite Ghc) (λ access is. laws.accesses_of_port_spare_ghc port access (laws.control_spares_other_ports CommandRegister port access is)) stop.accesses stop.accesses_are_of_kind)
        (All-weaker (ReadsPortOrWrites IsCommandRegister port) (DoesNotWrite (Px port Sctl)) (laws.control_spares_other_registers CommandRegister port Sctl no_control) stop.accesses stop.accesses_are_of_kind) in
        let det : (mid.port port.0).sctl_det ≡ 0 = l.controls_are_kept.sctl_det_is_kept ∙ up.no_comreset in
        record {
          asks_disk_then_stops = record { asked = mid; asks = driven; stops = stop };
          bits_rise_with_cause = goes_more laws port.0 old mid new asked.grows late.grows asked.runs.bits_rise_with_cause late.goes;
          link_is_up = λ calm h.
              let parts = calm_in_parts laws port.0 old mid new asked.grows late.grows calm in
              late.up parts.1 (laws.started_port_is_up (mid.port port.0) (asked.runs.undisturbed_stays_started parts.0 h) (λ e. absurd (omega (arith, det, e))));
        }

  -- ---- the whole boot

  module _ (port : Port) (start old new : Device) (up : IsBroughtUp port start old) (early : TapeGrows start old) (late : TapeGrows old new) where
    linked : (old.port port.0).link_due ≡ false
    linked = (up.faults_are_on_record up.runs.st_is_set).no_link_is_due

    clear_since : BitsRiseWithCause port.0 old new → SerrShowsOnlyNewPlugs port.0 start new
    clear_since goes =
        let disks = goes.link_errors_rise_by_disks linked in
        record {
          serr_n_is_clear = λ none. let parts = plugs_in_parts laws port.0 start old new early late none in disks.serr_n_rises_by_plug_events parts.1 (up.serr_shows_only_new_plugs.serr_n_is_clear parts.0);
          serr_x_is_clear = λ none. let parts = comes_in_parts laws port.0 start old new early late none in disks.serr_x_rises_by_disk_coming parts.1 (up.serr_shows_only_new_plugs.serr_x_is_clear parts.0);
        }

    fatal_since : BitsRiseWithCause port.0 old new → NoFatalErrors port.0 start new → (place : ℕ) → 27 ≤ place → place ≤ 29 → (new.port port.0).is place ≡ false
    fatal_since goes none place low high =
        goes.error_bits_rise_by_errors.fatal (laws.tape.no_fatal_errors_in_parts port.0 start old new early.0 late.0 early.1 late.1 none).1 place low high (up.no_cause_is_set place (omega (arith, high)))

    fault_since : BitsRiseWithCause port.0 old new → NoFaults port.0 start new → (new.port port.0).is 30 ≡ false
    fault_since goes none = goes.error_bits_rise_by_errors.fault (laws.tape.no_faults_in_parts port.0 start old new early.0 late.0 early.1 late.1 none).1 (up.no_cause_is_set 30 (omega arith))

    -- where no disk went or came, and nothing else went wrong since the port was up
    no_trouble : BitsRiseWithCause port.0 old new → NoPlugEvents port.0 start new → Undisturbed port.0 old new → ShowsNoTrouble (new.port port.0)
    no_trouble goes plugs calm =
        let clear = clear_since goes in
        record {
          serr_n_is_clear = clear.serr_n_is_clear plugs;
          serr_x_is_clear = clear.serr_x_is_clear (laws.tape.no_plug_event_no_disk port.0 start new plugs);
          bits_27_to_30_are_clear = λ place low high. elim (cases_eq place 30) [
            | inl e ↦ let P : ℕ → Type 0 = λ k. (new.port port.0).is k ≡ false in subst P (sym e) (goes.error_bits_rise_by_errors.fault (laws.undisturbed_has_no_fault port.0 old new calm) (up.no_cause_is_set 30 (omega arith)))
            | inr ne ↦ goes.error_bits_rise_by_errors.fatal (laws.undisturbed_has_no_fatal port.0 old new calm) place low (omega (arith, high, ne)) (up.no_cause_is_set place (omega (arith, high)))
          ];
        }

    -- the port was started where none went or came
    started_then : Undisturbed port.0 start new → Undisturbed port.0 old new × IsStarted (old.port port.0)
    started_then calm =
        let parts = calm_in_parts laws port.0 start old new early late calm in
        (parts.1, up.port_is_started (laws.undisturbed_has_no_plug_events port.0 start old parts.0))

    pub shows_news : StaysRunningIfUndisturbed port.0 old new → ShowsOnlyGainedErrors port.0 start new
    shows_news runs = record {
      serr_shows_only_new_plugs = clear_since runs.bits_rise_with_cause;
      fatal_bits_show_only_new_errors = fatal_since runs.bits_rise_with_cause;
      tfes_shows_only_new_faults = fault_since runs.bits_rise_with_cause;
      faults_are_on_record = runs.faults_are_on_record up.faults_are_on_record;
      runs_well_if_undisturbed = λ calm. let s = started_then calm in laws.started_quiet_port_runs_well (new.port port.0) (runs.undisturbed_stays_started s.0 s.1) (no_trouble runs.bits_rise_with_cause (laws.undisturbed_has_no_plug_events port.0 start new calm) s.0);
    }

    pub gets_ready : AsksDiskThenEnables port old new → StaysRunningIfUndisturbed port.0 old new → BringsReady port start new
    gets_ready then runs = record {
      up = old;
      brings_up = up.brings_up_port;
      asks_disk = then;
      runs_well_if_undisturbed = λ plugs calm.
          let parts = plugs_in_parts laws port.0 start old new early late plugs in
          laws.started_quiet_port_runs_well (new.port port.0) (runs.undisturbed_stays_started calm (up.port_is_started parts.0)) (no_trouble runs.bits_rise_with_cause plugs calm);
    }

    pub ends_late : StopsWithLinkUpIfUndisturbed port old new → EndsAfterStart port start new
    ends_late stops = record {
      up = old;
      brings_up = up.brings_up_port;
      asks_then_stops = stops.asks_disk_then_stops;
      serr_shows_only_new_plugs = clear_since stops.bits_rise_with_cause;
      no_link_is_due = stops.bits_rise_with_cause.no_link_gets_due linked;
      undisturbed_link_is_up = λ calm. let s = started_then calm in stops.link_is_up s.0 s.1;
    }

  -- ---- by what is answered

  module _ (port : Port) (start old new : Device) (rises : BootBringsUp port start old) (wanted : Option (List ℕ))
      (written : (new.port port.0).notes.sctl_written_at ≡ (old.port port.0).notes.sctl_written_at) where
    risen : TapeGrows start old
    risen = driven_grows laws (ReadsPortOrWrites IsWrittenInBootButCi port) start old rises.boots.is_simulated.is_driven

    since : length start.tape ≤ (new.port port.0).notes.sctl_written_at
    since = let before = rises.is_brought_up.sctl_written_in_boot in omega (arith, before, written)

    pub whole_identified : (result : Result DiskInfo PortState) → IfOk result (λ info. Identifies wanted port info old new) → IfOk result (λ info. EndsReady wanted port info start new)
    whole_identified (Ok info) i =
        let late = driven_grows laws (IsBootAccess port) old new i.boots.is_driven in
        record {
          ready = i.ready;
          sctl_written_in_boot = since;
          boots = whole_ready laws port start old new rises.boots (Ok info) i.boots;
          brings_ready = gets_ready port start old new rises.is_brought_up risen late i.asks_disk i.runs_on;
          shows_only_new_errors = shows_news port start old new rises.is_brought_up risen late i.runs_on;
          halt_fits_taken_commands = i.halt_fits_taken_commands;
        }
    whole_identified (Err state) i = i

    pub whole_stopped : (result : Result DiskInfo PortState) → IfErr result (λ state. FailsToIdentify wanted port state old new) → IfErr result (λ state. EndsUnready wanted port state start new)
    whole_stopped (Ok info) f = f
    whole_stopped (Err state) f = record {
      state_is_backed = f.state_is_backed;
      sctl_written_in_boot = λ _. since;
      boots = whole_ended laws port start old new rises.boots (Err state) f.boots;
      unstarted_state_ends_before_start = λ early. absurd (f.was_started early);
      stopped_state_ends_after_start = λ _. ends_late port start old new rises.is_brought_up risen (driven_grows laws (IsBootAccess port) old new (boot_driven (Stops port) port old new state f.boots)) f.stops_with_link_up;
    }
