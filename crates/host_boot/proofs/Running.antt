-- A port that runs well goes on so while others are booted: so each that was found ready runs well, where nothing goes wrong on it.
use Rattle.std.proofs.Common.{ℕ, zero, suc, ◌≡◌, ◌≢◌, ◌≤◌, ◌+◌, List, [], ◌∷◌, refl, sym, ◌∙◌, ap, subst, arith}
use Rattle.std.specs.Prelude.{slice_index_or}
use Rattle.ata_types.specs.declared.Port.{Port}
use Rattle.hba_regs.specs.declared.reg.Reg.TheVariants.{Ghc, Px}
use Rattle.hba_regs.specs.declared.reg.PortReg.{PortReg}
use Rattle.hba_regs.specs.declared.reg.PortReg.TheVariants.{Cmd, Sctl}
use Rattle.adapter.specs.Access.{Access, Writes}
use Rattle.adapter.specs.Access.Access.{Reading, Writing, Loading, Storing}
use Rattle.adapter.specs.Device.{Device}
use Rattle.adapter.specs.Idle.{IsIdle}
use Rattle.adapter.specs.Rules.{IsOn}
use Rattle.refinement.specs.Relation.{port_at}
use Rattle.refinement.specs.Fragments.{IsDrivenBy, AccessesNoOtherPort, NoneWrites}
use Rattle.refinement.specs.PortFacts.{RecordsFaultsIfSt, RunsWell, Undisturbed}
use Rattle.refinement.specs.Fragments.{TapeGrows}
use Rattle.identify.specs.declared.DiskInfo.{DiskInfo}
use Rattle.port_boot.specs.States.{IsBootAccess, StaysRunningIfUndisturbed, ShownDiskIsIn}
use Rattle.host_boot.specs.TakeOver.{SwitchesOnBootsAndEnablesInterrupts, StopsAndBootsOrDoesNothing, BootsEachServedPortOrSticks, ReadsCapOrPi, probe_result_of}
use Rattle.host_boot.specs.declared.ProbeResult.{ProbeResult}
use Rattle.host_boot.specs.declared.ProbeResult.TheVariants.{Unserved, Ready, Unready}
use Rattle.host_boot.specs.Laws.{Laws}
use Rattle.host_boot.proofs.Stretching.{by_none, by_then, calm_in_parts, driven_as, on_over, stop_driven, tape_over}
use Rattle.std.proofs.lemmas.List.Elements.{All-weaker}
use Rattle.hba_regs.specs.declared.reg.Reg.{Reg}
use Rattle.refinement.specs.PreservedParts.{DoesNotWrite}

-- it is of a port with this number, or one above it
abbrev IsOfFrom : ℕ → Access → Type 0
IsOfFrom n access = (port : Port) × (n ≤ port.0) × AccessesNoOtherPort port access

-- it is of another port than this one
abbrev pub IsOfOther : ℕ → Access → Type 0
IsOfOther q access = (port : Port) × (q ≢ port.0) × AccessesNoOtherPort port access

survey_spares_ghc : NoneWrites ReadsCapOrPi Ghc
survey_spares_ghc (Reading r v) is = tt
survey_spares_ghc (Writing r v) is = absurd is
survey_spares_ghc (Loading at bytes) is = absurd is
survey_spares_ghc (Storing at bytes) is = absurd is

module _ (laws : Laws) where
  pub other_spares : (port : Port) (r : PortReg) → NoneWrites (IsOfOther port.0) (Px port r)
  other_spares port r access (at, other, is) = laws.one_port_spares_registers at port r other access is

  others_run : (port : Port) (old new : Device) → IsOn old → IsDrivenBy (IsOfOther port.0) old new → StaysRunningIfUndisturbed port.0 old new
  others_run port old new on driven =
      let spares = λ (r : Reg) (each : NoneWrites (IsOfOther port.0) r). All-weaker (IsOfOther port.0) (DoesNotWrite r) each driven.accesses driven.accesses_are_of_kind in
      laws.runs_on_after_accesses port driven.accesses old new on driven.all_are_done (spares Ghc (λ access (at, other, is). laws.one_port_spares_ghc at access is)) (spares (Px port Sctl) (other_spares port Sctl)) (spares (Px port Cmd) (other_spares port Cmd))

  pub others_well : (port : Port) (old new : Device) → IsOn old → IsDrivenBy (IsOfOther port.0) old new → Undisturbed port.0 old new → RunsWell (old.port port.0) → RunsWell (new.port port.0)
  others_well port old new on driven = laws.stays_well_if_undisturbed port.0 old new (others_run port old new on driven)

  pub other_well : (port at : Port) (old new : Device) → port.0 ≢ at.0 → IsOn old → IsDrivenBy (AccessesNoOtherPort at) old new → Undisturbed port.0 old new → RunsWell (old.port port.0) → RunsWell (new.port port.0)
  other_well port at old new other on driven = others_well port old new on (driven_as (AccessesNoOtherPort at) (IsOfOther port.0) old new (λ access is. (at, other, is)) driven)

  -- ---- the way of a port

  through_driven : (port : Port) (found : ProbeResult) (old new : Device) → StopsAndBootsOrDoesNothing port found old new → IsDrivenBy (AccessesNoOtherPort port) old new
  through_driven port Unserved old new same = subst (λ (d : Device). IsDrivenBy (AccessesNoOtherPort port) old d) (sym same) (by_none (AccessesNoOtherPort port) old)
  through_driven port (Ready info) old new (stopped, stop, boot, ready, news) =
      by_then laws (stop_driven laws port old stopped stop) (driven_as (IsBootAccess port) (AccessesNoOtherPort port) stopped new (laws.boot_access_is_of_port port) boot)
  through_driven port (Unready state) old new (stopped, stop, boot, early, late, sticks) =
      by_then laws (stop_driven laws port old stopped stop) (driven_as (IsBootAccess port) (AccessesNoOtherPort port) stopped new (laws.boot_access_is_of_port port) boot)

  through_well : (port : Port) (info : DiskInfo) (old new : Device) → StopsAndBootsOrDoesNothing port (Ready info) old new → Undisturbed port.0 old new → RunsWell (new.port port.0)
  through_well port info old new (stopped, stop, boot, ready, news) calm =
      news.runs_well_if_undisturbed (calm_in_parts laws port.0 old stopped new (tape_over laws (AccessesNoOtherPort port) old stopped (stop_driven laws port old stopped stop)) (tape_over laws (IsBootAccess port) stopped new boot) calm).1

  -- of ports one after another
  go_driven : (n first : ℕ) (ports : List ProbeResult) (old new : Device) → n ≤ first → BootsEachServedPortOrSticks first ports old new → IsDrivenBy (IsOfFrom n) old new
  go_driven n first [] old new less same = subst (λ (d : Device). IsDrivenBy (IsOfFrom n) old d) (sym same) (by_none (IsOfFrom n) old)
  go_driven n first (found ∷ rest) old new less (mid, way, more) =
      by_then laws (driven_as (AccessesNoOtherPort (port_at first)) (IsOfFrom n) old mid (λ access is. (port_at first, less, is)) (through_driven (port_at first) found old mid way))
      (go_driven n (first + 1) rest mid new (omega (arith, less)) more)

  from_spares_ghc : (n : ℕ) → NoneWrites (IsOfFrom n) Ghc
  from_spares_ghc n access (at, less, is) = laws.one_port_spares_ghc at access is

  -- the one that was found ready runs well once it was booted, and after the others were
  go_well : (port : Port) (info : DiskInfo) (first : ℕ) (ports : List ProbeResult) (k : ℕ) (old new : Device) → port.0 ≡ first + k → slice_index_or ports k Unserved ≡ Ready info → IsOn old → BootsEachServedPortOrSticks first ports old new →
      Undisturbed port.0 old new → RunsWell (new.port port.0)
  go_well port info first [] k old new at is on way calm = absurd (let e : Unserved ≡ Ready info = is in cc)
  go_well port info first (found ∷ rest) zero old new at is on (mid, way, more) calm =
      let same : port_at first ≡ port = ap port_at (sym (at ∙ (omega arith))) in
      let its : StopsAndBootsOrDoesNothing port (Ready info) old mid = subst (λ (p : Port). StopsAndBootsOrDoesNothing p (Ready info) old mid) same (subst (λ (f : ProbeResult). StopsAndBootsOrDoesNothing (port_at first) f old mid) is way) in
      let early = through_driven (port_at first) found old mid way in
      let late = go_driven (first + 1) (first + 1) rest mid new (omega arith) more in
      let parts = calm_in_parts laws port.0 old mid new (tape_over laws (AccessesNoOtherPort (port_at first)) old mid early) (tape_over laws (IsOfFrom (first + 1)) mid new late) calm in
      others_well port mid new (on_over laws (AccessesNoOtherPort (port_at first)) old mid early (laws.one_port_spares_ghc (port_at first)) on)
      (driven_as (IsOfFrom (first + 1)) (IsOfOther port.0) mid new (λ access (q, above, its). (q, λ (e : port.0 ≡ q.0). absurd (omega (arith, at, above, e)), its)) late)
      parts.1 (through_well port info old mid its parts.0)
  go_well port info first (found ∷ rest) (suc k) old new at is on (mid, way, more) calm =
      let early = through_driven (port_at first) found old mid way in
      let late = go_driven (first + 1) (first + 1) rest mid new (omega arith) more in
      let parts = calm_in_parts laws port.0 old mid new (tape_over laws (AccessesNoOtherPort (port_at first)) old mid early) (tape_over laws (IsOfFrom (first + 1)) mid new late) calm in
      go_well port info (first + 1) rest k mid new (omega (arith, at)) is (on_over laws (AccessesNoOtherPort (port_at first)) old mid early (laws.one_port_spares_ghc (port_at first)) on) more parts.1

  -- ---- what lasts, whatever goes wrong

  -- What holds once a port went its way, and lasts over accesses of other ports, holds once they all went theirs.
  go_last : (P : Device → Type 0) (port : Port) (its : ProbeResult) → its ≢ Unserved → ((old new : Device) → IsOn old → StopsAndBootsOrDoesNothing port its old new → P new)
      → ((old new : Device) → IsOn old → IsDrivenBy (IsOfOther port.0) old new → P old → P new)
      → (first : ℕ) (ports : List ProbeResult) (k : ℕ) (old new : Device) → port.0 ≡ first + k → slice_index_or ports k Unserved ≡ its → IsOn old → BootsEachServedPortOrSticks first ports old new → P new
  go_last P port its served through lasting first [] k old new at is on way = absurd (served (sym is))
  go_last P port its served through lasting first (found ∷ rest) zero old new at is on (mid, way, more) =
      let same : port_at first ≡ port = ap port_at (sym (at ∙ (omega arith))) in
      let own : StopsAndBootsOrDoesNothing port its old mid = subst (λ (p : Port). StopsAndBootsOrDoesNothing p its old mid) same (subst (λ (f : ProbeResult). StopsAndBootsOrDoesNothing (port_at first) f old mid) is way) in
      let early = through_driven (port_at first) found old mid way in
      let late = go_driven (first + 1) (first + 1) rest mid new (omega arith) more in
      lasting mid new (on_over laws (AccessesNoOtherPort (port_at first)) old mid early (laws.one_port_spares_ghc (port_at first)) on)
      (driven_as (IsOfFrom (first + 1)) (IsOfOther port.0) mid new (λ access (q, above, of_q). (q, λ (e : port.0 ≡ q.0). absurd (omega (arith, at, above, e)), of_q)) late)
      (through old mid on own)
  go_last P port its served through lasting first (found ∷ rest) (suc k) old new at is on (mid, way, more) =
      let early = through_driven (port_at first) found old mid way in
      go_last P port its served through lasting (first + 1) rest k mid new (omega (arith, at)) is (on_over laws (AccessesNoOtherPort (port_at first)) old mid early (laws.one_port_spares_ghc (port_at first)) on) more

  pub taken_well : (port : Port) (info : DiskInfo) (ports : List ProbeResult) (old new : Device) → IsIdle old → probe_result_of ports port.0 ≡ Ready info → SwitchesOnBootsAndEnablesInterrupts ports old new → Undisturbed port.0 old new → RunsWell (new.port port.0)
  taken_well port info ports old new idle is way calm =
      let on : IsOn way.device_switched_on = laws.ghc_write_switches_on 0x80000000 old way.device_switched_on idle.no_reset refl refl way.switches in
      let surveyed : IsOn way.device_after_survey = on_over laws ReadsCapOrPi way.device_switched_on way.device_after_survey way.surveys survey_spares_ghc on in
      let driven = go_driven 0 0 ports way.device_after_survey way.device_after_boots (omega arith) way.boots in
      let booted : IsOn way.device_after_boots = on_over laws (IsOfFrom 0) way.device_after_survey way.device_after_boots driven (from_spares_ghc 0) surveyed in
      let before : TapeGrows old way.device_after_survey = laws.tape.growth_is_transitive old way.device_switched_on way.device_after_survey (laws.tape.access_grows (Writing Ghc 0x80000000) old way.device_switched_on way.switches) (tape_over laws ReadsCapOrPi way.device_switched_on way.device_after_survey way.surveys) in
      let boots : TapeGrows way.device_after_survey way.device_after_boots = tape_over laws (IsOfFrom 0) way.device_after_survey way.device_after_boots driven in
      let last : StaysRunningIfUndisturbed port.0 way.device_after_boots new = laws.runs_on_after_access port (Writing Ghc 0x80000002) way.device_after_boots new booted (λ (e : Ghc ≡ Px port Sctl). absurd cc) (λ (e : Ghc ≡ Px port Cmd). absurd cc) way.enables_interrupts in
      let ending : TapeGrows way.device_after_boots new = laws.tape.access_grows (Writing Ghc 0x80000002) way.device_after_boots new way.enables_interrupts in
      let parts = calm_in_parts laws port.0 old way.device_after_boots new (laws.tape.growth_is_transitive old way.device_after_survey way.device_after_boots before boots) ending calm in
      let within = calm_in_parts laws port.0 old way.device_after_survey way.device_after_boots before boots parts.0 in
      laws.stays_well_if_undisturbed port.0 way.device_after_boots new last parts.1 (go_well port info 0 ports port.0 way.device_after_survey way.device_after_boots (omega arith) is surveyed way.boots within.1)

  -- and once the adapter was let interrupt, if that leaves it
  pub taken_last : (P : Device → Type 0) (port : Port) (its : ProbeResult) → its ≢ Unserved → ((old new : Device) → IsOn old → StopsAndBootsOrDoesNothing port its old new → P new)
      → ((old new : Device) → IsOn old → IsDrivenBy (IsOfOther port.0) old new → P old → P new) → ((old new : Device) → IsOn old → Writes Ghc 0x80000002 old new → P old → P new)
      → (ports : List ProbeResult) (old new : Device) → IsIdle old → probe_result_of ports port.0 ≡ its → SwitchesOnBootsAndEnablesInterrupts ports old new → P new
  taken_last P port its served through lasting enabling ports old new idle is way =
      let on : IsOn way.device_switched_on = laws.ghc_write_switches_on 0x80000000 old way.device_switched_on idle.no_reset refl refl way.switches in
      let surveyed : IsOn way.device_after_survey = on_over laws ReadsCapOrPi way.device_switched_on way.device_after_survey way.surveys survey_spares_ghc on in
      let driven = go_driven 0 0 ports way.device_after_survey way.device_after_boots (omega arith) way.boots in
      let booted : IsOn way.device_after_boots = on_over laws (IsOfFrom 0) way.device_after_survey way.device_after_boots driven (from_spares_ghc 0) surveyed in
      enabling way.device_after_boots new booted way.enables_interrupts (go_last P port its served through lasting 0 ports port.0 way.device_after_survey way.device_after_boots (omega arith) is surveyed way.boots)

  pub taken_recorded : (port : Port) (info : DiskInfo) (ports : List ProbeResult) (old new : Device) → IsIdle old → probe_result_of ports port.0 ≡ Ready info → SwitchesOnBootsAndEnablesInterrupts ports old new → RecordsFaultsIfSt new.tape (new.port port.0) port.0
  taken_recorded port info =
      taken_last (λ d. RecordsFaultsIfSt d.tape (d.port port.0) port.0) port (Ready info) (λ e. absurd (let z : Ready info ≡ Unserved = e in cc))
      (λ old new on its. its.4.faults_are_on_record)
      (λ old new on driven h. (others_run port old new on driven).faults_are_on_record h)
      (λ old new on does h. (laws.runs_on_after_access port (Writing Ghc 0x80000002) old new on (λ (e : Ghc ≡ Px port Sctl). absurd cc) (λ (e : Ghc ≡ Px port Cmd). absurd cc) does).faults_are_on_record h)

  -- where it shows a device, a disk is in
  pub taken_own : (port : Port) (info : DiskInfo) (ports : List ProbeResult) (old new : Device) → IsIdle old → probe_result_of ports port.0 ≡ Ready info → SwitchesOnBootsAndEnablesInterrupts ports old new → ShownDiskIsIn (new.port port.0)
  taken_own port info =
      taken_last (λ d. ShownDiskIsIn (d.port port.0)) port (Ready info) (λ e. absurd (let z : Ready info ≡ Unserved = e in cc))
      (λ old new on its. laws.ready_boot_has_shown_disk_in port its.0 new its.3)
      (λ old new on driven h. laws.shown_disk_stays_in port.0 driven.accesses old new driven.all_are_done h)
      (λ old new on does h. laws.shown_disk_stays_in_over_access port.0 (Writing Ghc 0x80000002) old new does h)
