-- A port in which a disk is found when the adapter is taken over had one in at some moment on the way.
use Rattle.std.proofs.Common.{List, [], ap, arith, refl, subst, suc, sym, true, zero, ℕ, ◌++◌, ◌+◌, ◌∙◌, ◌∷◌, ◌≡◌, ◌≢◌}
use Rattle.std.proofs.lemmas.List.Elements.{All-append}
use Rattle.adapter.specs.Access.{Access, DoesAll}
use Rattle.adapter.specs.Access.Access.{Loading, Reading, Storing, Writing}
use Rattle.adapter.specs.Device.{Device}
use Rattle.adapter.specs.Idle.{IsIdle}
use Rattle.adapter.specs.Rules.{IsOn}
use Rattle.refinement.specs.Relation.{port_at}
use Rattle.refinement.specs.Fragments.{TapeGrows, ReadsPortOrWrites, IsDrivenBy, AccessesNoOtherPort}
use Rattle.ata_types.specs.declared.Port.{Port}
use Rattle.ata_types.specs.declared.PortState.{PortState as ShownState}
use Rattle.ata_types.specs.declared.PortState.TheVariants.{Ready as ReadyState}
use Rattle.block_machine.specs.Events.{ShowsDisk}
use Rattle.hba_regs.specs.declared.reg.Reg.TheVariants.{Cap, Ghc, Pi}
use Rattle.host_boot.specs.TakeOver.{BootsEachServedPortOrSticks, SwitchesOnBootsAndEnablesInterrupts, StopsAndBootsOrDoesNothing, ReadsCapOrPi, probe_result_of}
use Rattle.host_boot.specs.declared.ProbeResult.{ProbeResult}
use Rattle.host_boot.specs.declared.ProbeResult.TheVariants.{Ready, Unready, Unserved}
use Rattle.port_boot.specs.States.{IsBootAccess}
use Rattle.port_control.specs.Ports.{IsCommandRegister}
use Rattle.server_history.proofs.state.DrivenAccesses.{by_none, driven_as}
use Rattle.server_history.proofs.recovery_turn.LinkResets.{IsBeside, commanding}
use Rattle.server_history.proofs.any_turn.ShownTrouble.{grows_over}
use Rattle.server_history.proofs.recovery_turn.FoundDisk.{SeesDevice, ready_sees, unready_sees}
use Rattle.server_history.specs.Prerequisites.{PrerequisiteLaws}
use Rattle.server_history.specs.ResetLaws.{ResetLaws}
use Rattle.server_history.specs.ServerState.{state_of}

-- A disk was in at some moment between the two.
pub record SawDisk (port : Port) (old new : Device) : Type 0 where
  pub seen : Device
  pub accesses : List Access
  pub does : DoesAll accesses old seen
  pub present : (seen.port port.0).present ≡ true
  pub later : TapeGrows seen new

module _ (laws : PrerequisiteLaws) where
  -- with more before, or after
  pub saw_before : (port : Port) (accesses : List Access) (old mid new : Device) → DoesAll accesses old mid → SawDisk port mid new → SawDisk port old new
  saw_before port accesses old mid new does saw = record {
    seen = saw.seen;
    accesses = accesses ++ saw.accesses;
    does = laws.steps_and_accesses.does_append accesses saw.accesses old mid saw.seen does saw.does;
    present = saw.present;
    later = saw.later;
  }

  pub saw_after : (port : Port) (old mid new : Device) → TapeGrows mid new → SawDisk port old mid → SawDisk port old new
  saw_after port old mid new grows saw = record { seen = saw.seen; accesses = saw.accesses; does = saw.does; present = saw.present; later = laws.port_event_laws.tape.growth_is_transitive saw.seen mid new saw.later grows }

  -- ---- one port's way

  boot_of : (port : Port) (old new : Device) → IsDrivenBy (IsBootAccess port) old new → IsDrivenBy (AccessesNoOtherPort port) old new
  boot_of port old new driven = driven_as (IsBootAccess port) (AccessesNoOtherPort port) old new (laws.boot_access_is_of_port port) driven

  stopping_of : (port : Port) (old new : Device) → IsDrivenBy (ReadsPortOrWrites IsCommandRegister port) old new → IsDrivenBy (AccessesNoOtherPort port) old new
  stopping_of port old new driven = boot_of port old new (driven_as (IsBeside port) (IsBootAccess port) old new (λ access is. is.0) (commanding laws port old new driven))

  of_both : (port : Port) (old mid new : Device) → IsDrivenBy (AccessesNoOtherPort port) old mid → IsDrivenBy (AccessesNoOtherPort port) mid new → IsDrivenBy (AccessesNoOtherPort port) old new
  of_both port old mid new early late = record {
    accesses = early.accesses ++ late.accesses;
    all_are_done = laws.steps_and_accesses.does_append early.accesses late.accesses old mid new early.all_are_done late.all_are_done;
    accesses_are_of_kind = All-append (AccessesNoOtherPort port) early.accesses late.accesses early.accesses_are_of_kind late.accesses_are_of_kind;
  }

  through_of : (port : Port) (found : ProbeResult) (old new : Device) → StopsAndBootsOrDoesNothing port found old new → IsDrivenBy (AccessesNoOtherPort port) old new
  through_of port Unserved old new same = subst (IsDrivenBy (AccessesNoOtherPort port) old) (sym same) (by_none (AccessesNoOtherPort port) old)
  through_of port (Ready info) old new (stopped, stops, boots, gets, shows) = of_both port old stopped new (stopping_of port old stopped stops) (boot_of port stopped new boots)
  through_of port (Unready state) old new (stopped, stops, boots, first, last, sticks) = of_both port old stopped new (stopping_of port old stopped stops) (boot_of port stopped new boots)

  sees_saw : (port : Port) (old new : Device) → SeesDevice port old new → SawDisk port old new
  sees_saw port old new s = record { seen = s.seen; accesses = s.early.accesses; does = s.early.all_are_done; present = s.own s.shows; later = grows_over laws s.late.accesses s.seen new s.late.all_are_done }

  -- one that finds a disk
  through_saw : (port : Port) (found : ProbeResult) (old new : Device) → IsOn old → ((state : ShownState) → found ≡ Unready state → state ≢ ReadyState) → ShowsDisk (state_of found) → StopsAndBootsOrDoesNothing port found old new → SawDisk port old new
  through_saw port Unserved old new on other shows way = absurd shows
  through_saw port (Ready info) old new on other shows (stopped, stops, boots, gets, news) =
      let driven = stopping_of port old stopped stops in
      saw_before port driven.accesses old stopped new driven.all_are_done (sees_saw port stopped new (ready_sees laws port stopped new (laws.one_port_keeps_adapter_on port old stopped on driven) gets))
  through_saw port (Unready state) old new on other shows (stopped, stops, boots, first, last, sticks) =
      let driven = stopping_of port old stopped stops in
      saw_before port driven.accesses old stopped new driven.all_are_done
      (sees_saw port stopped new (unready_sees laws port state stopped new (laws.one_port_keeps_adapter_on port old stopped on driven) (other state refl) first last shows))

  -- ---- one port after another

  go_grows : (first : ℕ) (ports : List ProbeResult) (old new : Device) → BootsEachServedPortOrSticks first ports old new → TapeGrows old new
  go_grows first [] old new same = subst (TapeGrows old) (sym same) (laws.port_event_laws.tape.growth_is_reflexive old)
  go_grows first (found ∷ rest) old new (mid, way, more) =
      let driven = through_of (port_at first) found old mid way in
      laws.port_event_laws.tape.growth_is_transitive old mid new (grows_over laws driven.accesses old mid driven.all_are_done) (go_grows (first + 1) rest mid new more)

  go_saw : (port : Port) (found : ProbeResult) → ((state : ShownState) → found ≡ Unready state → state ≢ ReadyState) → ShowsDisk (state_of found)
      → (first : ℕ) (ports : List ProbeResult) (k : ℕ) (old new : Device) → port.0 ≡ first + k → probe_result_of ports k ≡ found → IsOn old → BootsEachServedPortOrSticks first ports old new → SawDisk port old new
  go_saw port found other shows first [] k old new at is on way = absurd (let none : ShowsDisk (state_of Unserved) = subst (λ (f : ProbeResult). ShowsDisk (state_of f)) (sym is) shows in none)
  go_saw port found other shows first (one ∷ rest) zero old new at is on (mid, way, more) =
      let same : port_at first ≡ port = ap port_at (sym (at ∙ (omega arith))) in
      let own : StopsAndBootsOrDoesNothing port found old mid = subst (λ (p : Port). StopsAndBootsOrDoesNothing p found old mid) same (subst (λ (f : ProbeResult). StopsAndBootsOrDoesNothing (port_at first) f old mid) is way) in
      saw_after port old mid new (go_grows (first + 1) rest mid new more) (through_saw port found old mid on other shows own)
  go_saw port found other shows first (one ∷ rest) (suc k) old new at is on (mid, way, more) =
      let driven = through_of (port_at first) one old mid way in
      saw_before port driven.accesses old mid new driven.all_are_done
      (go_saw port found other shows (first + 1) rest k mid new (omega (arith, at)) is (laws.one_port_keeps_adapter_on (port_at first) old mid on driven) more)

  -- ---- the whole

  survey_of : (port : Port) (access : Access) → ReadsCapOrPi access → AccessesNoOtherPort port access
  survey_of port (Reading Cap v) is = tt
  survey_of port (Reading Pi v) is = tt
  survey_of port (Reading r v) is = absurd is
  survey_of port (Writing r v) is = absurd is
  survey_of port (Loading at bytes) is = absurd is
  survey_of port (Storing at bytes) is = absurd is

pub taken_saw : (laws : ResetLaws) (port : Port) (found : ProbeResult) → ((state : ShownState) → found ≡ Unready state → state ≢ ReadyState) → ShowsDisk (state_of found) → (ports : List ProbeResult) (old new : Device) → IsIdle old
    → probe_result_of ports port.0 ≡ found → SwitchesOnBootsAndEnablesInterrupts ports old new → SawDisk port old new
taken_saw laws port found other shows ports old new rest is way =
    let below : PrerequisiteLaws = laws.prerequisites in
    let on = laws.prerequisites.ghc_write_switches_on 0x80000000 old way.device_switched_on rest.no_reset refl refl way.switches in
    let surveys = driven_as ReadsCapOrPi (AccessesNoOtherPort port) way.device_switched_on way.device_after_survey (survey_of below port) way.surveys in
    saw_before below port (Writing Ghc 0x80000000 ∷ surveys.accesses) old way.device_after_survey new (way.device_switched_on, way.switches, surveys.all_are_done)
    (saw_after below port way.device_after_survey way.device_after_boots new (below.port_event_laws.tape.access_grows (Writing Ghc 0x80000002) way.device_after_boots new way.enables_interrupts)
    (go_saw below port found other shows 0 ports port.0 way.device_after_survey way.device_after_boots (omega arith) is (below.one_port_keeps_adapter_on port way.device_switched_on way.device_after_survey on surveys) way.boots))
