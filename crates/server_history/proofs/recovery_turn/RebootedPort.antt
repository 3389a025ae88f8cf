-- A turn that mends its port leaves the port what it was, or dead, or has reset its link.
use Rattle.std.proofs.Common.{◌≡◌, ◌≢◌, ◌<◌, ◌++◌, List, Some, refl, sym, ap, ◌∙◌, subst, inl, inr, arith, ⊎_elim}
use Rattle.std.specs.Prelude.{◌⊎◌}
use Rattle.std.proofs.lemmas.List.{get_or-set_same}
use Rattle.std.specs.List.{Contains}
use Rattle.ata_types.specs.declared.Port.{Port}
use Rattle.ata_types.specs.declared.PortState.TheVariants as shown
use Rattle.ata_types.specs.declared.PortState.TheVariants.{Dead as DeadState, Ready as ReadyState}
use Rattle.ata_types.specs.declared.request.Reply.{Reply}
use Rattle.adapter.specs.Access.{Access}
use Rattle.adapter.specs.Device.{Device}
use Rattle.refinement.specs.Fragments.{AnySlotStates, IsSimulated}
use Rattle.refinement.specs.PreservedParts.{SameAdapter}
use Rattle.block_machine.specs.Events.{Replied, Service}
use Rattle.block_machine.specs.Ports.{SamePort}
use Rattle.block_machine.specs.State.{Machine}
use Rattle.driver_history.specs.Histories.{BootsAnewWhereRequired}
use Rattle.driver_history.specs.AccessTrace.{LastSctlWritesResetLink}
use Rattle.error_recovery.specs.declared.Next.{Next}
use Rattle.error_recovery.specs.declared.Next.TheVariants as next
use Rattle.host_boot.specs.TakeOver.{probe_result_of, wanted_of}
use Rattle.host_boot.specs.declared.ProbeResult.{ProbeResult}
use Rattle.host_boot.specs.declared.ProbeResult.TheVariants.{Ready, Unready, Unserved}
use Rattle.port_control.specs.declared.Running as running_token
use Rattle.port_control.specs.PortEvents.{IsPxisSstsOrOwnIsAccess}
use Rattle.port_control.specs.declared.events.PortError.{PortError}
use Rattle.port_control.specs.declared.events.PortError.TheVariants.{TaskFileError, LinkChanged}
use Rattle.server_history.specs.Prerequisites.{PrerequisiteLaws}
use Rattle.server_history.specs.ErrorHandling.{IsFoundAfterError, IsErrorHandled, HasResolved, HandlesPortError}
use Rattle.server_history.specs.ServerState.{ServerState, InCallInvariant, last_disk_in, last_disk_of, is_served, probed_mode, mode_in, plain_mode, ports_of, last_sectors_of, last_serial_of, state_of, zeroes_after_trim_of}
use Rattle.server_history.specs.Turns.{joint_state_of}
use Rattle.server_history.proofs.recovery_turn.MendedPort.{disk_new, disk_old, found_new, issued_as, next_dead, state_new}
use Rattle.server_history.proofs.recovery_turn.TurnEvidence.{IsEvident}
use Rattle.server_history.proofs.any_turn.ToldTrouble.{given_up}
use Rattle.server_history.proofs.recovery_turn.MendedMachine.{mid_kept}
use Rattle.server_history.proofs.recovery_turn.TurnParts.{fatal_of, gone_of}
use Rattle.server_history.proofs.recovery_turn.LinkResets.{resets_since}
use Rattle.server_history.proofs.state.PortSlots.{ready_found}
use Rattle.server_history.proofs.recovery_turn.TurnStretches.{TurnParts}
use Rattle.server_history.proofs.state.FirstMembers.{nowhere}

module _ (laws : PrerequisiteLaws) (port : Port) (replies : List Reply) (old new : ServerState) (k : InCallInvariant old) (ready : state_of (probe_result_of old.probe_results port.0) ≡ ReadyState) (r : HandlesPortError port replies old new)
    (looks : IsSimulated (IsPxisSstsOrOwnIsAccess port) AnySlotStates old.device r.has_resolved.error_handled.device_after_look) (kept : InCallInvariant r.server_after_resolving) (evident : IsEvident port replies old new r) where
  abbrev a : HasResolved port r.later_replies old r.server_after_resolving
  a = r.has_resolved

  abbrev x : IsErrorHandled port old a.server_after_handling a.device_after_handling
  x = a.error_handled

  abbrev t : TurnParts port replies old new r
  t = evident.parts

  low : port.0 < 4
  low = (ready_found old port.0 k ready).0

  -- ---- a port that runs again

  mode_new : mode_in new port ≡ a.mode
  mode_new =
      let then_kept = mid_kept laws port r.later_replies old r.server_after_resolving k ready a looks in
      let four = then_kept.modes_are_of_four_ports in
      ap (λ (s : ServerState). mode_in s port) (issued_as laws port replies old new k ready r looks kept) ∙ ap (λ (s : ServerState). mode_in s port) a.server_is
      ∙ get_or-set_same a.server_after_handling.modes port.0 a.mode plain_mode (let small = low in omega (arith, small, four))

  abbrev until : List Access
  until = t.early.accesses ++ x.recovers_or_stops.accesses

  adapter : SameAdapter old.device a.device_after_handling
  adapter = laws.port_event_laws.accesses_keep_adapter old.device a.device_after_handling (record {
    accesses = until;
    all_are_done = laws.steps_and_accesses.does_append t.early.accesses x.recovers_or_stops.accesses old.device a.server_after_handling.device a.device_after_handling t.early.all_are_done t.does;
    accesses_are_of_kind = λ i access small. tt;
  })

  module _ (found : a.found ≡ Ready a.disk_before) (device : r.server_after_resolving.device ≡ a.device_after_handling) where
    found_same : probe_result_of new.probe_results port.0 ≡ probe_result_of old.probe_results port.0
    found_same = found_new laws port replies old new k ready r looks kept ∙ found ∙ sym a.was_ready

    disk_same : last_disk_in new port ≡ last_disk_in old port
    disk_same = disk_new laws port replies old new k ready r looks kept ∙ ap (λ (f : ProbeResult). last_disk_of f (Some a.disk_before)) found ∙ sym (disk_old laws port replies old new k ready r looks kept)

    mode_same : mode_in new port ≡ mode_in old port
    mode_same =
        mode_new ∙ a.mode_is ∙ ap (probed_mode r.server_after_resolving.device.cap) (found ∙ sym a.was_ready)
        ∙ ap (λ cap. probed_mode cap (probe_result_of old.probe_results port.0)) (ap (λ (d : Device). d.cap) device ∙ adapter.cap) ∙ sym (k.modes_are_probed port.0 low)

    same : SamePort (ports_of old) (ports_of new) port
    same = (ap is_served found_same, ap state_of found_same, ap last_serial_of disk_same, ap last_sectors_of disk_same, ap zeroes_after_trim_of found_same, mode_same)

  -- ---- one that was booted

  -- It is dead; or its link was reset; or its disk was lost, and it is absent.
  abbrev Stopped : Type 0
  Stopped = ((ports_of new).state port ≡ DeadState) ⊎ (((x.port_error ≡ LinkChanged) × ((ports_of new).state port ≡ shown.Absent)) ⊎ LastSctlWritesResetLink port evident.accesses)

  abbrev Rebooted : Type 0
  Rebooted = ((ports_of new).state port ≡ DeadState) ⊎ (((ports_of new).state port ≡ shown.Absent) ⊎ LastSctlWritesResetLink port evident.accesses)

  rebooted : Stopped → Rebooted
  rebooted s = ⊎_elim (λ dead. inl dead) (λ more. inr (⊎_elim (λ absent. inl absent.1) (λ resets. inr resets) more)) s

  reset : LastSctlWritesResetLink port t.late.accesses → LastSctlWritesResetLink port evident.accesses
  reset late = subst (LastSctlWritesResetLink port) (sym evident.accesses_are) (resets_since port t.early.accesses (x.recovers_or_stops.accesses ++ t.late.accesses) (resets_since port x.recovers_or_stops.accesses t.late.accesses late))

  dead_or_not : (f : ProbeResult) → (f ≡ Unready DeadState) ⊎ (f ≢ Unready DeadState)
  dead_or_not Unserved = inr (λ is. let z : Unserved ≡ Unready DeadState = is in cc)
  dead_or_not (Ready info) = inr (λ is. let z : Ready info ≡ Unready DeadState = is in cc)
  dead_or_not (Unready shown.Absent) = inr (λ is. let z : Unready shown.Absent ≡ Unready DeadState = is in cc)
  dead_or_not (Unready shown.Ready) = inr (λ is. let z : Unready shown.Ready ≡ Unready DeadState = is in cc)
  dead_or_not (Unready shown.Foreign) = inr (λ is. let z : Unready shown.Foreign ≡ Unready DeadState = is in cc)
  dead_or_not (Unready (shown.Unfit n)) = inr (λ is. let z : Unready (shown.Unfit n) ≡ Unready DeadState = is in cc)
  dead_or_not (Unready DeadState) = inl refl

  dead : a.found ≡ Unready DeadState → (ports_of new).state port ≡ DeadState
  dead is = state_new laws port replies old new k ready r looks kept ∙ ap state_of is

  stops : (n : Next) → x.result.next ≡ n → ((token : running_token.Running) → n ≢ next.Running token) → Stopped
  stops (next.Running token) is halts = absurd (halts token refl)
  stops (next.Restart token) is halts = ⊎_elim
      (λ (dies : a.found ≡ Unready DeadState). inl (dead dies))
      (λ (lives : a.found ≢ Unready DeadState). inr (⊎_elim (λ absent. inl (absent.0, state_new laws port replies old new k ready r looks kept ∙ ap state_of absent.1)) (λ resets. inr (reset resets)) (t.resets token is lives)))
      (dead_or_not a.found)
  stops next.Dead is halts = inl (dead (next_dead laws port replies old new k ready r looks kept is))

  ends : SamePort (ports_of old) (ports_of new) port ⊎ Stopped
  ends = by x.result.next refl
    where
      by : (n : Next) → x.result.next ≡ n → SamePort (ports_of old) (ports_of new) port ⊎ Stopped
      by (next.Running token) is =
          let then_is : IsFoundAfterError (wanted_of old.wanted port.0) port x.port_error a.disk_before (next.Running token) a.device_after_handling r.server_after_resolving.device a.found = subst (λ (n : Next). IsFoundAfterError (wanted_of old.wanted port.0) port x.port_error a.disk_before n a.device_after_handling r.server_after_resolving.device a.found) is a.is_found_after_error in
          inl (same then_is.0 then_is.1)
      by (next.Restart token) is = inr (stops (next.Restart token) is (λ at e. let z : next.Restart token ≡ next.Running at = e in cc))
      by next.Dead is = inr (stops next.Dead is (λ at e. let z : next.Dead ≡ next.Running at = e in cc))

  -- but after a command that failed it doesn't run on
  unless_failed : x.port_error ≢ TaskFileError → Stopped
  unless_failed other = stops x.result.next refl ((given_up x.port_error port x.outstanding x.queued x.result x.recovers_or_stops.accesses a.server_after_handling.device a.device_after_handling x.tells_error_handling other).1)

  -- and where its disk wasn't lost either, its link was reset, unless it is dead
  pub restarts : x.port_error ≢ TaskFileError → x.port_error ≢ LinkChanged → ((ports_of new).state port ≡ DeadState) ⊎ LastSctlWritesResetLink port evident.accesses
  restarts other there = ⊎_elim (λ dead. inl dead) (λ more. inr (⊎_elim (λ absent. absurd (there absent.0)) (λ resets. resets) more)) (unless_failed other)

  pub reboots : (m : Machine) → BootsAnewWhereRequired Service (Replied replies) evident.accesses (joint_state_of old m) (ports_of new) new.device port
  reboots m = (
    (λ is_ready port_error. rebooted (unless_failed (λ failed. ⊎_elim
        (λ fatal. nowhere port (subst (λ (t : PortError). Contains (fatal_of port t (old.device.port port.0)) port) failed ((evident.evidenced Service m).shown_fatal_of_ready_is_named is_ready fatal)))
        (λ loss. nowhere port (subst (λ (t : PortError). Contains (gone_of port t (old.device.port port.0)) port) failed ((evident.evidenced Service m).shown_loss_of_ready_is_named is_ready loss)))
        port_error))),
    ⊎_elim (λ same. inl same) (λ stops. inr (rebooted stops)) ends,
  )
