-- A boot that finds a disk has seen a device on its way: PxSSTS was read, and its DET was 3 (AHCI 1.3.1, 3.3.10).
use Rattle.std.proofs.Common.{◌⊎◌, true, ◌≡◌, ◌≢◌, ◌∷◌, ◌++◌, [], inl, inr, refl, sym, ap, ◌∙◌, ⊎_elim, arith, subst}
use Rattle.std.proofs.lemmas.Bool.{cases_eq}
use Rattle.std.proofs.lemmas.List.Elements.{All-append, All-weaker}
use Rattle.std.specs.List.{All, list_any}
use Rattle.std.specs.Prelude.{List}
use Rattle.ata_types.specs.declared.Port.{Port}
use Rattle.ata_types.specs.declared.PortState.{PortState as Shown}
use Rattle.ata_types.specs.declared.PortState.TheVariants.{Absent, Dead, Foreign, Ready as ReadyState, Unfit}
use Rattle.ata_types.specs.declared.limits.TheConstants.{MOST_READINGS}
use Rattle.hba_regs.specs.declared.reg.PortReg.TheVariants.{Sctl, Ssts, Tfd}
use Rattle.hba_regs.specs.declared.reg.Reg.TheVariants.{Px}
use Rattle.adapter.specs.Access.{Access, DoesAll, Writes}
use Rattle.adapter.specs.Access.Access.{Reading, Writing}
use Rattle.adapter.specs.Device.{Device, DevicePort}
use Rattle.adapter.specs.Rules.{IsOn}
use Rattle.refinement.specs.Fragments.{TapeGrows, ReadsPortOrWrites, IsDrivenBy, AccessesNoOtherPort}
use Rattle.refinement.specs.Driver.{TapeBacksSteps}
use Rattle.block_machine.specs.Events.{ShowsDisk, changes_disk}
use Rattle.block_machine.specs.State.{Machine}
use Rattle.block_machine.specs.Steps.{Step}
use Rattle.host_boot.specs.Reboots.{RebootsPort, EndsReadyOrUnready, IsCapPiOrBootAccess}
use Rattle.host_boot.specs.declared.Booted.{Booted}
use Rattle.host_boot.specs.declared.ProbeResult.{ProbeResult}
use Rattle.host_boot.specs.declared.ProbeResult.TheVariants.{Ready, Unready, Unserved}
use Rattle.identify.specs.declared.wanted.Wanted.{Wanted}
use Rattle.port_boot.specs.States.{BacksState, EndsBeforeStart, EndsAfterStart, BringsReady, BringsUpPort, IsBeforeStart, IsStateStoppedAfterStart, IsBootAccess, ShownDiskIsIn, IsStateOfFault}
use Rattle.identify.specs.Wanted.{serial_of}
use Rattle.port_control.specs.Ports.{FindsLinkAndClearsErrors, HasLink, IsCmdOrBaseRegister, SeesResetFault, ReadsUntil}
use Rattle.port_control.specs.declared.PortFault.{PortFault}
use Rattle.port_control.specs.declared.PortFault.TheVariants.{NoDevice, Busy, EngineStuck, NotAta}
use Rattle.server_history.specs.Prerequisites.{PrerequisiteLaws}
use Rattle.server_history.specs.ServerState.{MachineRelation, ServerState, state_of}
use Rattle.server_history.proofs.state.DrivenAccesses.{driven_as}
use Rattle.server_history.proofs.recovery_turn.LinkResets.{IsBeside, cleared_then, late_then, linked_then, placing_boots, ready_then, resetting, started_then, until, without}
use Rattle.server_history.proofs.any_turn.ShownTrouble.{grows_over}
use Rattle.server_history.proofs.any_turn.ShownDevice.{had_disk}

-- At this moment of the way a device shows; and a disk is in then, since COMRESET has the port show no device until its link comes up.
pub record SeesDevice (port : Port) (old new : Device) : Type 0 where
  pub seen : Device
  pub early : IsDrivenBy (IsBootAccess port) old seen
  pub shows : (seen.port port.0).ssts_det ≡ 3
  pub own : ShownDiskIsIn (seen.port port.0)
  pub late : IsDrivenBy (IsBeside port) seen new

module _ (laws : PrerequisiteLaws) (port : Port) where
  -- once COMRESET was sent, a disk is in where a device shows
  own_then : (placed sent ended seen : Device) → IsOn placed → Writes (Px port Sctl) 1 placed sent → Writes (Px port Sctl) 0 sent ended → ReadsUntil port Ssts HasLink ended seen → ShownDiskIsIn (seen.port port.0)
  own_then placed sent ended seen on sends ends sees =
      let waits = sees.waits.reads in
      laws.recovery.shown_disk_stays_in port.0 (Writing (Px port Sctl) 0 ∷ (waits.accesses ++ Reading (Px port Ssts) sees.value ∷ [])) sent seen
      (ended, ends, laws.steps_and_accesses.does_append waits.accesses (Reading (Px port Ssts) sees.value ∷ []) ended sees.waited seen waits.all_are_done (seen, sees.reads, refl))
      (λ shows. let z : 0 ≡ 3 = sym none ∙ shows in absurd (omega (arith, z)))
    where
      none : (sent.port port.0).ssts_det ≡ 0
      none = ap (λ (p : DevicePort). p.ssts_det) (laws.port_event_laws.write_changes_port_register port Sctl 1 placed sent sends on.no_reset).port_is_written

  -- COMRESET was sent, and the link was found
  found_then : (old placed sent ended linked new : Device) → IsOn old → IsDrivenBy (ReadsPortOrWrites IsCmdOrBaseRegister port) old placed → Writes (Px port Sctl) 1 placed sent → Writes (Px port Sctl) 0 sent ended
      → FindsLinkAndClearsErrors port ended linked → IsDrivenBy (IsBeside port) linked new → SeesDevice port old new
  found_then old placed sent ended linked new on places sends ends found rest =
      let waited = (resetting laws port old placed sent ended found.reads_until_link.waited places sends ends (without laws port Ssts _ found.reads_until_link.count ended found.reads_until_link.waited found.reads_until_link.waits)).driven in
      let there = laws.one_port_keeps_adapter_on port old found.reads_until_link.waited on (record { accesses = waited.accesses; all_are_done = waited.all_are_done; accesses_are_of_kind = All-weaker (IsBootAccess port) (AccessesNoOtherPort port) (laws.boot_access_is_of_port port) waited.accesses waited.accesses_are_of_kind }) in
      record {
        seen = found.after_link_is_seen;
        early = (resetting laws port old placed sent ended found.after_link_is_seen places sends ends (until laws port Ssts _ ended found.after_link_is_seen found.reads_until_link)).driven;
        shows = sym (laws.port_event_laws.shown_after port Ssts found.reads_until_link.value found.reads_until_link.waited found.after_link_is_seen there.no_reset found.reads_until_link.reads) ∙ found.reads_until_link.shown;
        own = own_then placed sent ended found.after_link_is_seen (laws.one_port_keeps_adapter_on port old placed on (driven_as (ReadsPortOrWrites IsCmdOrBaseRegister port) (AccessesNoOtherPort port) old placed (λ access is. laws.boot_access_is_of_port port access (placing_boots laws port access is)) places)) sends ends found.reads_until_link;
        late = cleared_then laws port found.after_link_is_seen linked new found.clears rest;
      }

  -- the port was started, and what came then
  started : (old up new : Device) → IsOn old → BringsUpPort port old up → IsDrivenBy (IsBeside port) up new → SeesDevice port old new
  started old up new on g rest = found_then old g.placed g.resets.sent g.resets.ended g.resets.does_rest.linked new on g.places g.resets.sends g.resets.ends g.resets.does_rest.finds_link
      (started_then laws port old up new g rest)

  -- it wasn't started, but looked at, with a fault that isn't a missing device
  early : (state : Shown) (old new : Device) → IsOn old → state ≢ Absent → EndsBeforeStart port state old new → SeesDevice port old new
  early state old new on other g = by g.fault g.state_is g.resets.does_rest
    where
      by : (fault : PortFault) → IsStateOfFault state fault → SeesResetFault port fault g.resets.ended new → SeesDevice port old new
      by NoDevice told l = absurd (other told)
      by Busy told l = found_then old g.placed g.resets.sent g.resets.ended l.linked new on g.places g.resets.sends g.resets.ends l.finds_link (without laws port Tfd _ MOST_READINGS l.linked new l.waits)
      by (NotAta signature) told l = found_then old g.placed g.resets.sent g.resets.ended l.linked new on g.places g.resets.sends g.resets.ends l.finds_link (linked_then laws port signature g.resets.ended new l)
      by EngineStuck told l = absurd l

  -- a port that isn't ready, by the way that it went
  pub unready_sees : (state : Shown) (old new : Device) → IsOn old → state ≢ ReadyState → (IsBeforeStart state → EndsBeforeStart port state old new) → (IsStateStoppedAfterStart state → EndsAfterStart port old new) → ShowsDisk state → SeesDevice port old new
  unready_sees Absent old new on other first last shows = absurd shows
  unready_sees Dead old new on other first last shows = absurd shows
  unready_sees ReadyState old new on other first last shows = absurd (other refl)
  unready_sees Foreign old new on other first last shows = let g = last tt in started old g.up new on g.brings_up (late_then laws port old new g)
  unready_sees (Unfit n) old new on other first last shows = ⊎_elim
      (λ (seven : n ≡ 7). early (Unfit n) old new on no (first (inl seven)))
      (λ (not_seven : n ≢ 7). ⊎_elim
      (λ (eight : n ≡ 8). early (Unfit n) old new on no (first (inr eight)))
      (λ (not_eight : n ≢ 8). let g = last (not_seven, not_eight) in started old g.up new on g.brings_up (late_then laws port old new g))
      (cases_eq n 8))
      (cases_eq n 7)
    where
      no : Unfit n ≢ Absent
      no is = let z : Unfit n ≡ Absent = is in cc

  -- and one that is ready
  pub ready_sees : (old new : Device) → IsOn old → BringsReady port old new → SeesDevice port old new
  ready_sees old new on g = started old g.up new on g.brings_up (ready_then laws port old new g)

  -- each boot that finds a disk
  pub boot_sees : (wanted : Wanted) (found : ProbeResult) (old new : Device) → IsOn old → EndsReadyOrUnready wanted port found old new → ShowsDisk (state_of found) → SeesDevice port old new
  boot_sees wanted Unserved old new on none shows = absurd none
  boot_sees wanted (Ready info) old new on e shows = ready_sees old new on e.brings_ready
  boot_sees wanted (Unready state) old new on e shows = unready_sees state old new on (λ is. subst (λ (x : Shown). BacksState (serial_of wanted) x port.0 new) is e.state_is_backed) e.unstarted_state_ends_before_start e.stopped_state_ends_after_start shows

-- So it has since before the boot: by these accesses, of which some led to the boot.
pub record SeesOver (port : Port) (old asked new : Device) : Type 0 where
  pub seen : Device
  pub accesses : List Access
  pub does : DoesAll accesses old seen
  pub shows : (seen.port port.0).ssts_det ≡ 3
  pub own : ShownDiskIsIn (seen.port port.0)
  pub before : TapeGrows old asked
  pub since : TapeGrows asked new
  pub later : TapeGrows seen new

pub booted_sees : (laws : PrerequisiteLaws) (port : Port) (wanted : Wanted) (booted : Booted) (accesses : List Access) (old d new : Device) → IsOn old → DoesAll accesses old d → All (AccessesNoOtherPort port) accesses
    → (b : RebootsPort wanted port booted d new) → ShowsDisk (state_of booted.found) → SeesOver port old b.device_after_survey new
booted_sees laws port wanted booted accesses old d new on does of b shows = record {
  seen = sees.seen;
  accesses = until ++ sees.early.accesses;
  does = laws.steps_and_accesses.does_append until sees.early.accesses old b.device_after_survey sees.seen asked sees.early.all_are_done;
  shows = sees.shows;
  own = sees.own;
  before = grows_over laws until old b.device_after_survey asked;
  since = laws.port_event_laws.tape.growth_is_transitive b.device_after_survey sees.seen new (grows_over laws sees.early.accesses b.device_after_survey sees.seen sees.early.all_are_done) late;
  later = late;
}
  where
    made : IsDrivenBy (IsCapPiOrBootAccess port) d b.device_after_survey
    made = b.surveys.is_driven

    until : List Access
    until = accesses ++ made.accesses

    asked : DoesAll until old b.device_after_survey
    asked = laws.steps_and_accesses.does_append accesses made.accesses old d b.device_after_survey does made.all_are_done

    sees : SeesDevice port b.device_after_survey new
    sees = boot_sees laws port wanted booted.found b.device_after_survey new
        (laws.one_port_keeps_adapter_on port old b.device_after_survey on (record { accesses = until; all_are_done = asked; accesses_are_of_kind = All-append (AccessesNoOtherPort port) accesses made.accesses of (All-weaker (IsCapPiOrBootAccess port) (AccessesNoOtherPort port) (laws.recovery.boot_start_access_is_of_port port) made.accesses made.accesses_are_of_kind) }))
        b.boots shows

    late : TapeGrows sees.seen new
    late = grows_over laws sees.late.accesses sees.seen new sees.late.all_are_done

-- The machine had a disk in the port then, or one went or came, where the device went on after the boot.
pub booted_had : (laws : PrerequisiteLaws) (port : Port) (s : ServerState) (wanted : Wanted) (booted : Booted) (accesses : List Access) (d new end : Device) → IsOn s.device → DoesAll accesses s.device d → All (AccessesNoOtherPort port) accesses
    → (b : RebootsPort wanted port booted d new) → ShowsDisk (state_of booted.found) → TapeGrows new end → (m : Machine) → MachineRelation s m → (steps : List Step) → TapeBacksSteps s.device end m steps
    → (m.present port ≡ true) ⊎ (list_any (changes_disk port) steps ≡ true)
booted_had laws port s wanted booted accesses d new end on does of b shows later m stands steps backed =
    let sees = booted_sees laws port wanted booted accesses s.device d new on does of b shows in
    had_disk laws port s sees.seen end m sees.accesses sees.does (sees.own sees.shows) stands (laws.port_event_laws.tape.growth_is_transitive sees.seen new end sees.later later) steps backed
