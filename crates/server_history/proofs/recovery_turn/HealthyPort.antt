-- A port that was recovered, or booted anew, runs well after the turn, unless trouble came since ST was set.
use Rattle.std.proofs.Common.{◌≡◌, ◌≢◌, ◌<◌, ◌++◌, true, false, List, [], ◌∷◌, refl, sym, ap, ◌∙◌, subst, inr, ⊎_elim, arith}
use Rattle.std.specs.List.{All, Contains}
use Rattle.std.specs.Prelude.{◌⊎◌}
use Rattle.std.proofs.lemmas.Bool.{cases_eq, false≢true}
use Rattle.std.proofs.lemmas.List.Elements.{All-contains, All-contains_itself, All-head, All-tail, All-weaker, Contains-append_left, Contains-append_right}
use Rattle.ata_types.specs.declared.Port.{Port}
use Rattle.ata_types.specs.declared.PortState.TheVariants.{Dead as DeadState, Ready as ReadyState}
use Rattle.ata_types.specs.declared.request.Reply.{Reply}
use Rattle.hba_regs.specs.declared.reg.PortReg.TheVariants.{Ie, Sctl}
use Rattle.hba_regs.specs.declared.reg.Reg.TheVariants.{Ghc, Px}
use Rattle.adapter.specs.Access.{Access, DoesAll, named_causes_mask}
use Rattle.adapter.specs.Access.Access.{Writing}
use Rattle.adapter.specs.Device.{Device, DevicePort}
use Rattle.adapter.specs.Rules.{IsOn}
use Rattle.refinement.specs.Fragments.{AnySlotStates, TapeGrows, IsDrivenBy, IsSimulated}
use Rattle.refinement.specs.Errors.{IsFatalEntryOf}
use Rattle.refinement.specs.PortFacts.{IsFaultOf, RunsWell, Undisturbed}
use Rattle.refinement.specs.PreservedParts.{NoPlugEvents, DoesNotWrite}
use Rattle.refinement.specs.HaltRecovery.{IsLinked, WorksOnUnqueuedCommandsOnly}
use Rattle.block_machine.specs.State.{Machine}
use Rattle.driver_history.specs.Histories.{RunsWellAnew}
use Rattle.driver_history.specs.AccessTrace.{LastSctlWritesResetLink}
use Rattle.error_recovery.specs.Evidence.{GainsSinceStart}
use Rattle.error_recovery.specs.declared.Next.{Next}
use Rattle.error_recovery.specs.declared.Next.TheVariants as next
use Rattle.host_boot.specs.TakeOver.{StillBacksProbeResult, probe_result_of, wanted_of}
use Rattle.host_boot.specs.Reboots.{RebootsPort}
use Rattle.host_boot.specs.declared.Booted.{Booted}
use Rattle.host_boot.specs.declared.ProbeResult.{ProbeResult}
use Rattle.host_boot.specs.declared.ProbeResult.TheVariants.{Ready}
use Rattle.identify.specs.declared.DiskInfo.{DiskInfo}
use Rattle.identify.specs.declared.wanted.Wanted.{Wanted}
use Rattle.port_boot.specs.States.{BringsReady}
use Rattle.port_control.specs.PortEvents.{IsPxisSstsOrOwnIsAccess}
use Rattle.port_control.specs.declared.events.PortError.{PortError}
use Rattle.port_control.specs.declared.events.PortError.TheVariants.{TaskFileError}
use Rattle.block_machine.specs.Events.{Service}
use Rattle.server_history.specs.Prerequisites.{PrerequisiteLaws}
use Rattle.server_history.specs.ErrorHandling.{IsErrorHandled, HasResolved, HandlesPortError}
use Rattle.server_history.specs.ServerState.{ServerState, InCallInvariant, ports_of, state_of}
use Rattle.server_history.specs.Turns.{joint_state_of}
use Rattle.server_history.proofs.recovery_turn.MendedPort.{next_dead, state_new}
use Rattle.server_history.proofs.recovery_turn.TurnEvidence.{IsEvident}
use Rattle.server_history.proofs.any_turn.ToldTrouble.{given_up}
use Rattle.server_history.proofs.recovery_turn.MendedMachine.{mid_kept, mid_ready}
use Rattle.server_history.proofs.recovery_turn.LastingTrouble.{again, again_booted, boot_asked_on, boot_ends, ready_since, ready_up_on, info, issuing, recovered_on, then_issuing}
use Rattle.server_history.proofs.recovery_turn.RecoveryAccesses.{IsEarlyPart}
use Rattle.server_history.proofs.recovery_turn.TurnParts.{evidence_by, gone_of}
use Rattle.server_history.proofs.recovery_turn.LinkResets.{up_driven}
use Rattle.server_history.proofs.any_turn.ShownTrouble.{LeavesTrouble, grows_over, on_one, shows_over}
use Rattle.server_history.proofs.any_turn.ShownDevice.{none_comes}
use Rattle.server_history.proofs.state.PortSlots.{ready_found}
use Rattle.server_history.proofs.state.FirstMembers.{nowhere}
use Rattle.server_history.proofs.recovery_turn.TurnStretches.{TurnParts}

-- ---- a link that is up

-- a device shows, its first FIS has come, and no link is due
record ShowsLink (p : DevicePort) : Type 0 where
  det : p.ssts_det ≡ 3
  fresh : p.fresh ≡ true
  undue : p.link_due ≡ false

module _ (laws : PrerequisiteLaws) (port : Port) where
  -- the access writes neither PxSCTL nor GHC
  abbrev LeavesLinked : Access → Type 0
  LeavesLinked access = DoesNotWrite (Px port Sctl) access × DoesNotWrite Ghc access

  linked_over : (accesses : List Access) (old new : Device) → IsOn old → All LeavesLinked accesses → NoPlugEvents port.0 old new → DoesAll accesses old new → ShowsLink (old.port port.0) → ShowsLink (new.port port.0)
  linked_over [] old new on all none is up = subst (λ (d : Device). ShowsLink (d.port port.0)) (sym is) up
  linked_over (access ∷ accesses) old new on all none (mid, does, rest) up =
      let kind = All-head LeavesLinked access accesses all in
      let early = laws.port_event_laws.tape.access_grows access old mid does in
      let late = grows_over laws accesses mid new rest in
      let parts = laws.port_event_laws.tape.no_plug_events_in_parts port.0 old mid new early.0 late.0 early.1 late.1 none in
      linked_over accesses mid new (on_one laws port access old mid on kind.1 does) (All-tail LeavesLinked access accesses all) parts.1 rest
      (⊎_elim
      (λ same. record { det = same.det ∙ up.det; fresh = same.fresh ∙ up.fresh; undue = same.due ∙ up.undue })
      (λ comes. absurd (false≢true (sym up.undue ∙ comes.link_was_due)))
      (laws.port_event_laws.link_stays_or_comes_up port access old mid on.no_reset kind.0 does parts.0))

  -- a port that runs well does so still
  all_well : (accesses : List Access) (old new : Device) → IsOn old → All (LeavesTrouble port) accesses → DoesAll accesses old new → Undisturbed port.0 old new → RunsWell (old.port port.0) → RunsWell (new.port port.0)
  all_well [] old new on all is calm well = subst (λ (d : Device). RunsWell (d.port port.0)) (sym is) well
  all_well (access ∷ accesses) old new on all (mid, does, rest) calm well =
      let kind = All-head (LeavesTrouble port) access accesses all in
      let early = laws.port_event_laws.tape.access_grows access old mid does in
      let late = grows_over laws accesses mid new rest in
      let parts = laws.port_event_laws.tape.undisturbed_in_parts port.0 old mid new early.0 late.0 early.1 late.1 calm in
      all_well accesses mid new (laws.port_event_laws.access_keeps_on access old mid on kind.4 does) (All-tail (LeavesTrouble port) access accesses all) rest parts.1
      (laws.stays_well_if_undisturbed port.0 old mid (laws.runs_on_after_access port access old mid on kind.3 kind.2 does) parts.0 well)

  well_over : (old new : Device) → IsOn old → IsDrivenBy (LeavesTrouble port) old new → Undisturbed port.0 old new → RunsWell (old.port port.0) → RunsWell (new.port port.0)
  well_over old new on driven calm well = all_well driven.accesses old new on driven.accesses_are_of_kind driven.all_are_done calm well

-- one that got ready runs well, where no disk went or came, and nothing went wrong since ST was set
module _ (laws : PrerequisiteLaws) (port : Port) (old asked mid new : Device) (on : IsOn asked) (way : BringsReady port asked mid) (later : IsDrivenBy (LeavesTrouble port) mid new) (mid_on : IsOn mid)
    (first : TapeGrows old asked) where
  pub ready_well : NoPlugEvents port.0 old new → (GainsSinceStart (IsFaultOf port.0) port.0 old new → ⊥) → (GainsSinceStart (IsFatalEntryOf port.0) port.0 old new → ⊥) → RunsWell (new.port port.0)
  ready_well none unfailed unbroken =
      let since = ready_since laws port old asked mid new on way later in
      let up = (let x = up_driven laws port asked way.up way.brings_up in grows_over laws x.accesses asked way.up x.all_are_done) in
      let told = laws.port_event_laws.tape.growth_is_transitive way.up way.asks_disk.asked mid (grows_over laws way.asks_disk.asks.accesses way.up way.asks_disk.asked way.asks_disk.asks.all_are_done) (laws.port_event_laws.tape.access_grows (Writing (Px port Ie) named_causes_mask) way.asks_disk.asked mid way.asks_disk.enables_interrupts) in
      let whole = laws.port_event_laws.tape.growth_is_transitive asked way.up mid up told in
      let last = grows_over laws later.accesses mid new later.all_are_done in
      let rest = laws.port_event_laws.tape.growth_is_transitive asked mid new whole last in
      let plugs = laws.port_event_laws.tape.no_plug_events_in_parts port.0 asked mid new whole.0 last.0 whole.1 last.1 (laws.port_event_laws.tape.no_plug_events_in_parts port.0 old asked new first.0 rest.0 first.1 rest.1 none).1 in
      let same = (shows_over laws port since.accesses way.up new (ready_up_on laws port old asked mid new on way later) since.accesses_are_of_kind since.all_are_done).same in
      let set = way.brings_up.tape_is_as_at_st_set in
      let calm = laws.calls.untroubled_since_st_is_calm port.0 old way.up new (laws.port_event_laws.tape.growth_is_transitive old asked way.up first up) (grows_over laws since.accesses way.up new since.all_are_done) (omega (arith, same, set)) none unfailed unbroken in
      let parts = laws.port_event_laws.tape.undisturbed_in_parts port.0 way.up mid new told.0 last.0 told.1 last.1 calm in
      well_over laws port mid new mid_on later parts.1 (way.runs_well_if_undisturbed plugs.0 parts.0)

-- and so does one that was booted
module _ (laws : PrerequisiteLaws) (port : Port) (low : port.0 < 4) (wanted : Wanted) (info : DiskInfo) (booted : Booted) (old d mid new : Device) (on : IsOn d) (b : RebootsPort wanted port booted d mid) (found : booted.found ≡ Ready info)
    (later : IsDrivenBy (LeavesTrouble port) mid new) (mid_on : IsOn mid) (until : TapeGrows old d) where
  pub booted_well : NoPlugEvents port.0 old new → (GainsSinceStart (IsFaultOf port.0) port.0 old new → ⊥) → (GainsSinceStart (IsFatalEntryOf port.0) port.0 old new → ⊥) → RunsWell (new.port port.0)
  booted_well = ready_well laws port old b.device_after_survey mid new (boot_asked_on laws port low wanted info booted old d mid new on b found later) (boot_ends laws port low wanted info booted old d mid new on b found later).brings_ready later mid_on
      (laws.port_event_laws.tape.growth_is_transitive old d b.device_after_survey until (grows_over laws b.surveys.is_driven.accesses d b.device_after_survey b.surveys.is_driven.all_are_done))

-- a link wasn't reset where PxSCTL wasn't written
never_reset : (port : Port) (accesses : List Access) → All (DoesNotWrite (Px port Sctl)) accesses → LastSctlWritesResetLink port accesses → ⊥
never_reset port accesses all r = All-contains (DoesNotWrite (Px port Sctl)) accesses (Writing (Px port Sctl) r.comreset_value) all
    (subst (λ (list : List Access). Contains list (Writing (Px port Sctl) r.comreset_value)) (sym r.accesses_are_split)
    (Contains-append_right r.before (Writing (Px port Sctl) r.comreset_value ∷ (r.between ++ (Writing (Px port Sctl) r.end_of_comreset_value ∷ r.later))) (Writing (Px port Sctl) r.comreset_value)
    (0, omega arith, refl))) refl

-- ---- the whole

module _ (laws : PrerequisiteLaws) (port : Port) (replies : List Reply) (old new : ServerState) (k : InCallInvariant old) (ready : state_of (probe_result_of old.probe_results port.0) ≡ ReadyState) (r : HandlesPortError port replies old new)
    (looks : IsSimulated (IsPxisSstsOrOwnIsAccess port) AnySlotStates old.device r.has_resolved.error_handled.device_after_look) (kept : InCallInvariant r.server_after_resolving) (evident : IsEvident port replies old new r)
    (plainly : r.has_resolved.error_handled.queued ≡ false → WorksOnUnqueuedCommandsOnly (r.has_resolved.server_after_handling.device.port port.0)) where
  abbrev a : HasResolved port r.later_replies old r.server_after_resolving
  a = r.has_resolved

  abbrev x : IsErrorHandled port old a.server_after_handling a.device_after_handling
  x = a.error_handled

  abbrev t : TurnParts port replies old new r
  t = evident.parts

  low : port.0 < 4
  low = (ready_found old port.0 k ready).0

  then_kept : InCallInvariant a.server_after_handling
  then_kept = mid_kept laws port r.later_replies old r.server_after_resolving k ready a looks

  then_ready : state_of (probe_result_of a.server_after_handling.probe_results port.0) ≡ ReadyState
  then_ready = mid_ready laws port r.later_replies old r.server_after_resolving k ready a looks

  early_grows : TapeGrows old.device a.server_after_handling.device
  early_grows = grows_over laws t.early.accesses old.device a.server_after_handling.device t.early.all_are_done

  part_grows : TapeGrows a.server_after_handling.device a.device_after_handling
  part_grows = grows_over laws x.recovers_or_stops.accesses a.server_after_handling.device a.device_after_handling t.does

  late_grows : TapeGrows a.device_after_handling new.device
  late_grows = grows_over laws t.late.accesses a.device_after_handling new.device t.late.all_are_done

  -- ---- a port that runs again

  module _ (token : _) (is : x.result.next ≡ next.Running token) where
    unreset : All (DoesNotWrite (Px port Sctl)) (t.early.accesses ++ (x.recovers_or_stops.accesses ++ t.late.accesses))
    unreset = t.unreset (λ other same. let z : next.Running token ≡ next.Restart other = sym is ∙ same in absurd cc)

    early_leaves : All (LeavesLinked laws port) t.early.accesses
    early_leaves = All-weaker (λ access. Contains t.early.accesses access × IsEarlyPart port access) (LeavesLinked laws port)
        (λ access w. (
          All-contains (DoesNotWrite (Px port Sctl)) (t.early.accesses ++ (x.recovers_or_stops.accesses ++ t.late.accesses)) access unreset (Contains-append_left t.early.accesses (x.recovers_or_stops.accesses ++ t.late.accesses) access w.0),
          laws.one_port_spares_ghc port access w.1.0.1,
        ))
        t.early.accesses (λ i d small. (All-contains_itself t.early.accesses i d small, t.early.accesses_are_of_kind i d small))

    -- its link was up
    linked : NoPlugEvents port.0 old.device new.device → (old.device.port port.0).ssts_det ≡ 3 → (old.device.port port.0).fresh ≡ true → IsLinked (a.server_after_handling.device.port port.0)
    linked none det fresh = record {
      det_is_3 = up.det;
      present = (then_kept.port_invariant port.0 low).ready_has_disk_if_det_3 then_ready up.det;
      fresh = up.fresh;
      no_link_is_due = up.undue;
      comreset_is_over = λ one. let z : 0 ≡ 1 = sym released ∙ one in absurd cc;
    }
      where
        rest : TapeGrows a.server_after_handling.device new.device
        rest = laws.port_event_laws.tape.growth_is_transitive a.server_after_handling.device a.device_after_handling new.device part_grows late_grows

        up : ShowsLink (a.server_after_handling.device.port port.0)
        up = linked_over laws port t.early.accesses old.device a.server_after_handling.device k.adapter_is_on early_leaves
            (laws.port_event_laws.tape.no_plug_events_in_parts port.0 old.device a.server_after_handling.device new.device early_grows.0 rest.0 early_grows.1 rest.1 none).0 t.early.all_are_done
            (record { det = det; fresh = fresh; undue = ((k.port_invariant port.0 low).ready_engine_runs ready).faults_are_recorded.no_link_is_due })

        released : (a.server_after_handling.device.port port.0).sctl_det ≡ 0
        released =
            let f = ready_found a.server_after_handling port.0 then_kept then_ready in
            (subst (λ (f : ProbeResult). StillBacksProbeResult (wanted_of a.server_after_handling.wanted port.0) f port.0 a.server_after_handling.device) f.1.1 (then_kept.port_invariant port.0 low).probe_result_is_backed).1.no_comreset

    runs_well : NoPlugEvents port.0 old.device new.device → (old.device.port port.0).ssts_det ≡ 3 → (GainsSinceStart (IsFaultOf port.0) port.0 old.device new.device → ⊥) → (GainsSinceStart (IsFatalEntryOf port.0) port.0 old.device new.device → ⊥)
        → LastSctlWritesResetLink port evident.accesses ⊎ ((old.device.port port.0).fresh ≡ true) → RunsWell (new.device.port port.0)
    runs_well none det unfailed unbroken how =
        let fresh : (old.device.port port.0).fresh ≡ true = ⊎_elim
        (λ reset. absurd (never_reset port (t.early.accesses ++ (x.recovers_or_stops.accesses ++ t.late.accesses)) unreset (subst (LastSctlWritesResetLink port) evident.accesses_are reset)))
        (λ is. is) how in
        let rest = laws.port_event_laws.tape.growth_is_transitive a.server_after_handling.device a.device_after_handling new.device part_grows late_grows in
        let plugs = laws.port_event_laws.tape.no_plug_events_in_parts port.0 a.server_after_handling.device a.device_after_handling new.device part_grows.0 late_grows.0 part_grows.1 late_grows.1
        (laws.port_event_laws.tape.no_plug_events_in_parts port.0 old.device a.server_after_handling.device new.device early_grows.0 rest.0 early_grows.1 rest.1 none).1 in
        let runs = again laws port replies old new k ready r looks kept t token is in
        let on = recovered_on laws port replies old new k ready r looks kept t in
        let last = then_issuing laws port replies old new k ready r looks kept t token is in
        let same = (shows_over laws port last.accesses a.device_after_handling new.device on last.accesses_are_of_kind last.all_are_done).same in
        let known = runs.faults_are_on_record.st_set_is_on_tape in
        let calm = laws.calls.untroubled_since_st_is_calm port.0 old.device a.device_after_handling new.device (laws.port_event_laws.tape.growth_is_transitive old.device a.server_after_handling.device a.device_after_handling early_grows part_grows) late_grows (omega (arith, same, known)) none unfailed unbroken in
        well_over laws port a.device_after_handling new.device on last calm
        (runs.runs_well_if_linked_without_plug_or_fatal plugs.0 (λ g. unbroken (laws.calls.fatal_in_part_is_in_whole port.0 old.device a.server_after_handling.device a.device_after_handling new.device early_grows late_grows same g)) (linked none det fresh) plainly)

  -- ---- one that was booted

  module _ (token : _) (is : x.result.next ≡ next.Restart token) (is_ready : (ports_of new).state port ≡ ReadyState) where
    boots_well : NoPlugEvents port.0 old.device new.device → (GainsSinceStart (IsFaultOf port.0) port.0 old.device new.device → ⊥) → (GainsSinceStart (IsFatalEntryOf port.0) port.0 old.device new.device → ⊥)
        → RunsWell (new.device.port port.0)
    boots_well =
        let again = again_booted laws port replies old new k ready r looks kept t token is is_ready in
        let its = info laws port replies old new k ready r looks kept t token is is_ready in
        booted_well laws port low (wanted_of old.wanted port.0) its.0 again.0 old.device a.device_after_handling r.server_after_resolving.device new.device (recovered_on laws port replies old new k ready r looks kept t) again.2 (again.1 ∙ its.1)
        (issuing laws port replies old new k ready r looks kept t) kept.adapter_is_on (laws.port_event_laws.tape.growth_is_transitive old.device a.server_after_handling.device a.device_after_handling early_grows part_grows)

  -- A port that runs again showed a device when the turn began, where no disk went or came: else the look would have told that its disk was lost.
  showed : (m : Machine) (token : _) → x.result.next ≡ next.Running token → NoPlugEvents port.0 old.device new.device → (old.device.port port.0).ssts_det ≡ 3
  showed m token is none = ⊎_elim
      (λ shows. shows)
      (λ (missing : (old.device.port port.0).ssts_det ≢ 3).
      let failed : x.port_error ≢ TaskFileError = λ failed.
      nowhere port (subst (λ (t : PortError). Contains (gone_of port t (old.device.port port.0)) port) failed ((evident.evidenced Service m).shown_loss_of_ready_is_named ready (inr (missing, none_comes port.0 old.device new.device none)))) in
      absurd ((given_up x.port_error port x.outstanding x.queued x.result x.recovers_or_stops.accesses a.server_after_handling.device a.device_after_handling x.tells_error_handling failed).1 token is))
      (cases_eq (old.device.port port.0).ssts_det 3)

  pub going_well : (m : Machine) → RunsWellAnew (evidence_by a) evident.accesses (joint_state_of old m) (ports_of new) new.device port
  going_well m _ is_ready none unfailed unbroken how = by x.result.next refl
    where
      by : (n : Next) → x.result.next ≡ n → RunsWell (new.device.port port.0)
      by (next.Running token) is = runs_well token is none (showed m token is none) unfailed unbroken how
      by (next.Restart token) is = boots_well token is is_ready none unfailed unbroken
      by next.Dead is =
          let dead = state_new laws port replies old new k ready r looks kept ∙ ap state_of (next_dead laws port replies old new k ready r looks kept is) in
          let z : DeadState ≡ ReadyState = sym dead ∙ is_ready in absurd cc
