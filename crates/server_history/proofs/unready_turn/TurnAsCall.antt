-- What the turn of a port that isn't ready has done of it: where no disk of it came, what is there was tried; it was booted anew, unless it is what it was; and no trouble of it is lost.
use Rattle.std.proofs.Common.{◌<◌, ◌≡◌, ◌≢◌, ◌++◌, ◌%◌, ◌==◌, Bool, true, false, List, [], ◌∷◌, refl, sym, ap, ◌∙◌, subst, inl, inr, eqb-true, ⊎_elim, ◌⊎◌}
use Rattle.std.proofs.lemmas.Bool.{false≢true}
use Rattle.std.specs.List.{All}
use Rattle.ata_types.specs.declared.Port.{Port}
use Rattle.ata_types.specs.declared.PortState.{PortState}
use Rattle.ata_types.specs.declared.PortState.TheVariants.{Absent, Dead as DeadState, Ready as ReadyState}
use Rattle.hba_regs.specs.Bits.{bit}
use Rattle.hba_regs.specs.declared.reg.PortReg.TheVariants.{Is, Ssts}
use Rattle.hba_regs.specs.declared.reg.Reg.TheVariants.{Px}
use Rattle.adapter.specs.Access.{Access, DoesAll}
use Rattle.adapter.specs.Access.Access.{Reading}
use Rattle.adapter.specs.Device.{Device}
use Rattle.adapter.specs.Rules.{IsOn}
use Rattle.refinement.specs.Fragments.{AnySlotStates, IsSimulated, IsDrivenBy}
use Rattle.refinement.specs.Errors.{NoDiskComes, IsFatalEntryOf}
use Rattle.refinement.specs.PortFacts.{IsFaultOf, RunsWell}
use Rattle.refinement.specs.PreservedParts.{NoPlugEvents}
use Rattle.refinement.specs.Vacant.{IsVacant}
use Rattle.block_machine.specs.Events.{ShowsDisk}
use Rattle.block_machine.specs.Ports.{Evidence, IsStoppedOrStuck}
use Rattle.block_machine.specs.State.{Machine}
use Rattle.driver_history.specs.Histories.{IsForeignOrUnfit, HasFirstFisOrNoDevice, ProbesDisk}
use Rattle.driver_history.specs.AccessTrace.{LastSctlWritesResetLink}
use Rattle.driver_history.specs.PortTurn.{NoLinkDueAfterXUnlessAbsentDeadOrDiskComes}
use Rattle.error_recovery.specs.Evidence.{GainsSinceStart, HidesNoTrouble}
use Rattle.error_recovery.specs.declared.Next.{Next}
use Rattle.error_recovery.specs.declared.Next.TheVariants as next
use Rattle.host_boot.specs.Reboots.{RebootsPort}
use Rattle.host_boot.specs.TakeOver.{FoundUnusableDevice, probe_result_of, wanted_of}
use Rattle.host_boot.specs.declared.Booted.{Booted}
use Rattle.host_boot.specs.declared.ProbeResult.{ProbeResult}
use Rattle.host_boot.specs.declared.ProbeResult.TheVariants.{Ready, Unready}
use Rattle.identify.specs.declared.DiskInfo.{DiskInfo}
use Rattle.port_control.specs.declared.Stopped.{Stopped}
use Rattle.port_control.specs.DeviceChecks.{ChecksForChangeOrNoDevice, ChecksForDevice}
use Rattle.port_control.specs.PortEvents.{IsPxisSstsOrOwnIsAccess}
use Rattle.server_history.specs.Prerequisites.{PrerequisiteLaws}
use Rattle.server_history.specs.ServerState.{InCallInvariant, ServerState, is_served, ports_of, state_of}
use Rattle.server_history.specs.Probing.{BootsUnreadyPort, IsFoundAfterStop, FindsReasonToBoot}
use Rattle.server_history.specs.Turns.{joint_state_of}
use Rattle.port_control.specs.declared.events.PortError.TheVariants.{TimedOut, LinkChanged}
use Rattle.server_history.proofs.unready_turn.AnotherBoot.{interrupted, never_ready, stuck_if, whole, accesses, afterwards, does, found_then, then_is, until, until_of}
use Rattle.server_history.proofs.state.DrivenAccesses.{by_none}
use Rattle.server_history.proofs.unready_turn.IdleLook.{unchanged, unequal}
use Rattle.server_history.proofs.recovery_turn.LastingTrouble.{boot_shows}
use Rattle.server_history.proofs.recovery_turn.TurnParts.{stopped_of}
use Rattle.server_history.proofs.recovery_turn.LinkResets.{resets_since}
use Rattle.server_history.proofs.any_turn.ShownTrouble.{LeavesTrouble, grows_over}
use Rattle.server_history.proofs.recovery_turn.FoundDisk.{SeesOver, booted_sees}
use Rattle.server_history.proofs.unready_turn.TriedDisk.{LeavesClear, boot_clear, boot_ready, change_shown, has_gone, none_parts, reset_fresh_or_gone, shows_or_not, stays_vacant}
use Rattle.server_history.proofs.unready_turn.TriedPort.{DoesTried, evidence_tried}
use Rattle.server_history.proofs.recovery_turn.HealthyPort.{booted_well}
use Rattle.server_history.proofs.unready_turn.UnfitPort.{found_bad}

-- ---- a port in which a disk was found that isn't served

module _ (s : ServerState) (port : Port) (state : PortState) (k : InCallInvariant s) (is : probe_result_of s.probe_results port.0 ≡ Unready state) where
  bad_found : IsForeignOrUnfit (ports_of s) port → FoundUnusableDevice (state_of (probe_result_of s.probe_results port.0))
  bad_found bad = found_bad (state_of (probe_result_of s.probe_results port.0)) bad

  -- no disk is in then, where none shows
  vacant : IsForeignOrUnfit (ports_of s) port → (s.device.port port.0).ssts_det ≢ 3 → IsVacant (s.device.port port.0)
  vacant bad out = ⊎_elim
      (λ (shows : (s.device.port port.0).ssts_det ≡ 3). absurd (out shows))
      (λ (gone : (s.device.port port.0).present ≡ false). record { no_disk_is_in = gone; det_is_not_3 = out })
      ((k.port_invariant port.0 (k.served_ports_exist port.0 (ap is_served is)).0).bad_disk_is_shown_if_in (bad_found bad))

  -- ---- it was looked at, and that is all

  module _ (laws : PrerequisiteLaws) (seen : Device) (result : Bool) (l : FindsReasonToBoot state port result s.device seen) (none : result ≡ false) where
    device_found : (ports_of s).state port ≡ Absent → ChecksForDevice port result s.device seen
    device_found absent = subst (λ (its : PortState). FindsReasonToBoot its port result s.device seen) (sym (ap state_of is) ∙ absent) l

    change_found : IsForeignOrUnfit (ports_of s) port → ChecksForChangeOrNoDevice port result s.device seen
    change_found bad = ⊎_elim
        (λ foreign. subst (λ (its : PortState). FindsReasonToBoot its port result s.device seen) (sym (ap state_of is) ∙ foreign) l)
        (λ unfit. subst (λ (its : PortState). FindsReasonToBoot its port result s.device seen) (sym (ap state_of is) ∙ unfit.1) l)
        bad

    -- an absent one shows none then
    gone : (ports_of s).state port ≡ Absent → (seen.port port.0).ssts_det ≢ 3
    gone absent shows =
        let f = device_found absent in
        unequal (f.status % 16) 3 (sym f.result_is ∙ none) (laws.port_event_laws.shown_after port Ssts f.status s.device seen k.adapter_is_on.no_reset f.reads ∙ shows)

    still_there : NoDiskComes port.0 s.device seen → IsForeignOrUnfit (ports_of s) port → (s.device.port port.0).ssts_det ≢ 3 → ⊥
    still_there comes bad out =
        let f = change_found bad in
        let on = laws.port_event_laws.access_keeps_on (Reading (Px port Is) f.causes) s.device f.after_is_read k.adapter_is_on (λ v e. absurd cc) f.reads in
        let link = eqb-true (f.status % 16) 3 (unchanged (bit f.causes 6) (bit f.causes 22) (f.status % 16 == 3) (sym f.result_is ∙ none)).1 in
        (stays_vacant laws port (Reading (Px port Is) f.causes ∷ Reading (Px port Ssts) f.status ∷ []) s.device seen (f.after_is_read, f.reads, (seen, f.reads_status, refl)) comes (vacant bad out)).det_is_not_3
        (sym (laws.port_event_laws.shown_after port Ssts f.status f.after_is_read seen on.no_reset f.reads_status) ∙ link)

    still_same : IsForeignOrUnfit (ports_of s) port → (s.device.port port.0).serr_x ≡ true → ⊥
    still_same bad came =
        let f = change_found bad in
        let told = (laws.port_event_laws.serr_changes_are_read port f.causes s.device f.after_is_read k.adapter_is_on.no_reset f.reads).1 came in
        false≢true (sym (unchanged (bit f.causes 6) (bit f.causes 22) (f.status % 16 == 3) (sym f.result_is ∙ none)).0 ∙ told)

    rests_tries : NoDiskComes port.0 s.device seen → (made : List Access) (m : Machine) → ProbesDisk made (joint_state_of s m) (ports_of s) seen port
    rests_tries comes made m = record {
      absent_with_device_is_booted_dead_or_has_plug_event = λ absent shows. let f = device_found absent in inr (inr (has_gone laws port f.status s.device seen k.adapter_is_on f.reads shows (gone absent)));
      absent_gets_first_fis_or_dead_or_no_device = λ absent shows fresh. inr (inr (gone absent));
      missing_disk_makes_absent_or_dead = λ bad out. absurd (still_there comes bad out);
      changed_disk_is_booted_or_absent_or_dead = λ bad came. absurd (still_same bad came);
    }

    -- but for that, the port is what it was
    pub rests_does : (made : List Access) → All (IsPxisSstsOrOwnIsAccess port) made → DoesAll made s.device seen → DoesTried port (evidence_tried [] []) made s (record s { device = seen })
    rests_does made only did = record {
      probes = λ m comes. rests_tries comes made m;
      linked = λ m bad came comes. absurd (still_same bad came);
      boots = inl (refl, refl, refl, refl, refl, refl);
      port_error = λ m. record {
        ready_errors_are_handled_or_shown = λ ready. absurd (never ready);
        changes_are_handled_or_shown_unless_dead = λ _ port_error. inr (change_shown laws port made s.device seen k.adapter_is_on only did port_error);
        ready_shows_fault_since_start = λ ready. absurd (never ready);
        ready_shows_fatal_since_start = λ ready. absurd (never ready);
        ready_shows_plug_event_since_start = λ ready. absurd (never ready);
      };
      well = λ m _ ready. absurd (never ready);
    }
      where
        never : state_of (probe_result_of s.probe_results port.0) ≢ ReadyState
        never ready = never_ready s port state k is (sym (ap state_of is) ∙ ready)

-- ---- it was booted

module _ (laws : PrerequisiteLaws) (s new : ServerState) (seen : Device) (port : Port) (state : PortState) (k : InCallInvariant s) (is : probe_result_of s.probe_results port.0 ≡ Unready state) (lives : state ≢ DeadState)
    (looks : IsSimulated (IsPxisSstsOrOwnIsAccess port) AnySlotStates s.device seen) (b : BootsUnreadyPort port (record s { device = seen }) new) where
  abbrev then : ServerState
  then = then_is laws s new seen port state k is lives looks b

  abbrev made : List Access
  made = accesses laws s new seen port state k is lives looks b

  abbrev first : List Access
  first = looks.is_driven.accesses ++ b.probes_anew.stops_for_reset.handling.accesses

  -- what its boot found, where it isn't dead
  record FindsSome : Type 0 where
    booted : Booted
    same : booted.found ≡ b.found
    boots : RebootsPort (wanted_of s.wanted port.0) port booted b.probes_anew.stopped new.device
    resets : LastSctlWritesResetLink port made
    shows : ShowsDisk (state_of booted.found) ⊎ ((ports_of then).state port ≡ Absent)

  state_then : (ports_of then).state port ≡ state_of b.found
  state_then = ap state_of (found_then laws s new seen port state k is lives looks b)

  finds : ((ports_of then).state port ≡ DeadState) ⊎ FindsSome
  finds = by b.probes_anew.result.next refl b.probes_anew.is_probed_anew
    where
      reset : (token : Stopped) → b.probes_anew.result.next ≡ next.Restart token → b.found ≢ Unready DeadState → LastSctlWritesResetLink port made
      reset token so alive =
          let late = afterwards laws s new seen port state k is lives looks b in
          resets_since port looks.is_driven.accesses (b.probes_anew.stops_for_reset.handling.accesses ++ late.driven.accesses) (resets_since port b.probes_anew.stops_for_reset.handling.accesses late.driven.accesses
          (⊎_elim (λ lost. let z : TimedOut ≡ LinkChanged = lost.0 in absurd cc) (λ resets. resets) (late.resets token so alive)))

      some : (token : Stopped) → b.probes_anew.result.next ≡ next.Restart token → (booted : Booted) → booted.found ≡ b.found → RebootsPort (wanted_of s.wanted port.0) port booted b.probes_anew.stopped new.device → ((ports_of then).state port ≡ DeadState) ⊎ FindsSome
      some token so booted same boots = ⊎_elim
          (λ (shows : ShowsDisk (state_of b.found)). inr (record {
            booted = booted;
            same = same;
            boots = boots;
            resets = reset token so (λ dead. subst (λ (f : ProbeResult). ShowsDisk (state_of f)) dead shows);
            shows = inl (subst (λ (f : ProbeResult). ShowsDisk (state_of f)) (sym same) shows);
          }))
          (λ more. ⊎_elim
          (λ (absent : state_of b.found ≡ Absent). inr (record {
            booted = booted;
            same = same;
            boots = boots;
            resets = reset token so (λ dead. let z : DeadState ≡ Absent = sym (ap state_of dead) ∙ absent in cc);
            shows = inr (state_then ∙ absent);
          }))
          (λ (dead : b.found ≡ Unready DeadState). inl (state_then ∙ ap state_of dead))
          more)
          (shows_or_not b.found)

      by : (n : Next) → b.probes_anew.result.next ≡ n → IsFoundAfterStop (wanted_of s.wanted port.0) port n b.probes_anew.stopped new.device b.found → ((ports_of then).state port ≡ DeadState) ⊎ FindsSome
      by (next.Running token) so none = absurd none
      by (next.Restart token) so (booted, same, boots) = some token so booted same boots
      by next.Dead so (dead, same) = inl (state_then ∙ ap state_of dead)

  -- the moment at which it saw a device
  sees : (f : FindsSome) → ShowsDisk (state_of f.booted.found) → SeesOver port s.device f.boots.device_after_survey new.device
  sees f shows = booted_sees laws port (wanted_of s.wanted port.0) f.booted first s.device b.probes_anew.stopped new.device k.adapter_is_on (until laws s new seen port state k is lives looks b) (until_of laws s new seen port state k is lives looks b) f.boots shows

  -- where no disk was in, it saw none
  saw_none : NoDiskComes port.0 s.device new.device → (f : FindsSome) → IsForeignOrUnfit (ports_of s) port → (s.device.port port.0).ssts_det ≢ 3 → (ports_of then).state port ≡ Absent
  saw_none comes f bad out = ⊎_elim
      (λ shows.
      let x = sees f shows in
      let early = grows_over laws x.accesses s.device x.seen x.does in
      absurd ((stays_vacant laws port x.accesses s.device x.seen x.does (none_parts laws port s.device x.seen new.device early x.later comes).0 (vacant s port state k is bad out)).det_is_not_3 x.shows))
      (λ absent. absent)
      f.shows

  clear : (f : FindsSome) → ShowsDisk (state_of f.booted.found) → LeavesClear (wanted_of s.wanted port.0) port f.boots.device_after_survey new.device
  clear f shows = boot_clear (wanted_of s.wanted port.0) port f.boots.device_after_survey new.device f.booted.found f.boots.boots shows

  since : (f : FindsSome) → ShowsDisk (state_of f.booted.found) → NoDiskComes port.0 s.device new.device → NoDiskComes port.0 f.boots.device_after_survey new.device
  since f shows comes = let x = sees f shows in (none_parts laws port s.device f.boots.device_after_survey new.device x.before x.since comes).1

  boot_linked : (m : Machine) → NoLinkDueAfterXUnlessAbsentDeadOrDiskComes port (joint_state_of s m) (ports_of then) new.device
  boot_linked m bad came comes = ⊎_elim
      (λ dead. inr (inl dead))
      (λ f. ⊎_elim (λ shows. inr (inr ((clear f shows).undue (since f shows comes)))) (λ absent. inl absent) f.shows)
      finds

  boot_tries : (m : Machine) → NoDiskComes port.0 s.device new.device → ProbesDisk made (joint_state_of s m) (ports_of then) new.device port
  boot_tries m comes = record {
    absent_with_device_is_booted_dead_or_has_plug_event = λ absent shows. ⊎_elim (λ dead. inl dead) (λ f. inr (inl f.resets)) finds;
    absent_gets_first_fis_or_dead_or_no_device = λ absent shows fresh. ⊎_elim (λ dead. inl dead) (λ f. inr (fresh_then f)) finds;
    missing_disk_makes_absent_or_dead = λ bad out. ⊎_elim (λ dead. inr dead) (λ f. inl (saw_none comes f bad out)) finds;
    changed_disk_is_booted_or_absent_or_dead = λ bad came. ⊎_elim (λ dead. inr (inl dead)) (λ f. ⊎_elim (λ shows. inr (inr (f.resets, (clear f shows).clear.serr_x_is_clear (since f shows comes), fresh_then f))) (λ absent. inl absent) f.shows) finds;
  }
    where
      fresh_then : (f : FindsSome) → HasFirstFisOrNoDevice (new.device.port port.0)
      fresh_then f = reset_fresh_or_gone laws port made s.device new.device f.resets (does laws s new seen port state k is lives looks b) comes

  -- ---- trouble

  stopped_on : IsOn b.probes_anew.stopped
  stopped_on = laws.one_port_keeps_adapter_on port s.device b.probes_anew.stopped k.adapter_is_on (record { accesses = first; all_are_done = until laws s new seen port state k is lives looks b; accesses_are_of_kind = until_of laws s new seen port state k is lives looks b })

  -- it is ready then
  module _ (f : FindsSome) (ready : (ports_of then).state port ≡ ReadyState) where
    found : (info : DiskInfo) × (f.booted.found ≡ Ready info)
    found = boot_ready (wanted_of s.wanted port.0) port f.boots.device_after_survey new.device f.booted.found f.boots.boots (ap state_of f.same ∙ sym state_then ∙ ready)

    nothing : IsDrivenBy (LeavesTrouble port) new.device new.device
    nothing = by_none (LeavesTrouble port) new.device

    low_port : port.0 < 4
    low_port = (k.served_ports_exist port.0 (ap is_served is)).0

    shows_trouble : HidesNoTrouble port.0 s.device new.device
    shows_trouble = boot_shows laws port low_port (wanted_of s.wanted port.0) found.0 f.booted s.device b.probes_anew.stopped new.device new.device stopped_on f.boots found.1 nothing

    runs_well : NoPlugEvents port.0 s.device new.device → (GainsSinceStart (IsFaultOf port.0) port.0 s.device new.device → ⊥) → (GainsSinceStart (IsFatalEntryOf port.0) port.0 s.device new.device → ⊥) → RunsWell (new.device.port port.0)
    runs_well = booted_well laws port low_port (wanted_of s.wanted port.0) found.0 f.booted s.device b.probes_anew.stopped new.device new.device stopped_on f.boots found.1 nothing (whole laws s new seen port state k is lives looks b).1.on
        (grows_over laws first s.device b.probes_anew.stopped (until laws s new seen port state k is lives looks b))

  -- a dead port isn't ready
  some_found : (ports_of then).state port ≡ ReadyState → FindsSome
  some_found ready = ⊎_elim (λ dead. let z : DeadState ≡ ReadyState = sym dead ∙ ready in absurd cc) (λ f. f) finds

  abbrev evidence : Evidence
  evidence = evidence_tried (stopped_of port b.probes_anew.result.next) (stuck_if port b.found)

  pub boot_does : DoesTried port evidence made s then
  boot_does = record {
    probes = boot_tries;
    linked = boot_linked;
    boots = inr (⊎_elim (λ dead. inl dead) (λ f. inr (inr f.resets)) finds);
    port_error = λ m. record {
      ready_errors_are_handled_or_shown = λ _ _. inl stops;
      changes_are_handled_or_shown_unless_dead = λ _ _. inl stops;
      ready_shows_fault_since_start = λ ready. (shows_trouble (some_found ready) ready).fault_is_shown;
      ready_shows_fatal_since_start = λ ready. (shows_trouble (some_found ready) ready).fatal_is_shown;
      ready_shows_plug_event_since_start = λ ready. (shows_trouble (some_found ready) ready).plug_is_shown;
    };
    well = λ m _ ready none unfailed unbroken _. runs_well (some_found ready) ready none unfailed unbroken;
  }
    where
      stops : IsStoppedOrStuck evidence port
      stops = interrupted (wanted_of s.wanted port.0) port b.probes_anew.result.next b.probes_anew.stopped new.device b.found b.probes_anew.is_probed_anew
