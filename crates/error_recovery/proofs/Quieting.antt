-- A port's task file is read, the port is stopped, and its errors are forgotten.
use Rattle.refinement.specs.PreservedParts.{DoesNotWrite}
use Rattle.std.proofs.lemmas.List.Elements.{All-cons, All-weaker}
use Rattle.std.proofs.Common.{ℕ, ◌≡◌, ◌%◌, ◌++◌, false, List, [], ◌∷◌, inl, inr, refl, sym, ◌∙◌, ap, subst}
use Rattle.ata_types.specs.declared.Port.{Port}
use Rattle.hba_regs.specs.declared.reg.PortReg.TheVariants.{Ci, Cmd, Sact, Ssts, Tfd}
use Rattle.hba_regs.specs.declared.reg.Reg.TheVariants.{Px}
use Rattle.adapter.specs.Access.{Access, Reads}
use Rattle.adapter.specs.Access.Access.{Reading}
use Rattle.adapter.specs.Device.{Device, Notes}
use Rattle.adapter.specs.declared.command.Operation.TheVariants.{Identify}
use Rattle.refinement.specs.Fragments.{SomeMachineAgreesWith, AnySlotStates, SomeMachineAgrees, ReadsPortOrWrites, IsSimulated, IsSimulatedAlong, NoneWrites, GainsNoMove, IsDrivenBy}
use Rattle.refinement.specs.Driver.{AllFree}
use Rattle.refinement.specs.HaltRecovery.{WorksOnUnqueuedCommandsOnly}
use Rattle.refinement.specs.Slots.{Free, Own, SlotStates}
use Rattle.port_control.specs.Engines.{FailsToStop, EngineSticks, Stops}
use Rattle.port_control.specs.Ports.{FailsToStopPort, ClearsErrorState, PortStops, ClearsStAlone, IsSerrOrIs, IsStoppedReceiving, IsCommandRegister}
use Rattle.error_recovery.specs.Laws.{Laws}
use Rattle.error_recovery.specs.Laws.RegisterSet.{CommandRegister, ErrorRegisters}
use Rattle.error_recovery.specs.Laws.AccessPurpose.{Controlling, Recovering}
use Rattle.error_recovery.specs.Laws.SlotCondition.{AnyUses, PortUnused}
use Rattle.error_recovery.specs.RecoveryParts.{StopGetsStuck, IsOnWithPortAndDriverMemory, StopsAndClears, ReadsTfdStopsAndIssuesNone}
use Rattle.error_recovery.specs.Recovery.{IsRecoveryAccess, IssueNoCommand, PortMayRecover}
use Rattle.error_recovery.proofs.Going.{Goes, goes_over, plugs_in_parts, spares_active}
use Rattle.error_recovery.proofs.Stretching.{agreed_free, room_after, told_both, told_commands, told_wider, clears_recover}

reads_and_stops : (port : Port) (v : ℕ) (early late : List Access) → early ≡ Reading (Px port Tfd) v ∷ [] → (Stops port late → Stops port (early ++ late)) → Stops port late → IssueNoCommand port late → ReadsTfdStopsAndIssuesNone port v (early ++ late)
reads_and_stops port v early late is since stops none = (
  record { rest = late; accesses_are = ap (λ (made : List Access). made ++ late) is },
  since stops,
  subst (λ (made : List Access). IssueNoCommand port (made ++ late)) (sym is) (All-cons (DoesNotWrite (Px port Ci)) (Reading (Px port Tfd) v) late tt none),
)

module _ (laws : Laws) where
  -- neither PxCI nor PxSACT is written while PxCMD, PxSERR and PxIS are
  commanding_issues : (port : Port) → NoneWrites (ReadsPortOrWrites IsCommandRegister port) (Px port Ci)
  commanding_issues port = laws.control_spares_other_registers CommandRegister port Ci (λ e. absurd (let k : Ci ≡ Cmd = e in cc))

  commanding_arms : (port : Port) → NoneWrites (ReadsPortOrWrites IsCommandRegister port) (Px port Sact)
  commanding_arms port = laws.control_spares_other_registers CommandRegister port Sact (λ e. absurd (let k : Sact ≡ Cmd = e in cc))

  -- PxCMD alone is written, and no page comes by a command that isn't there
  pub commands_silent : (port : Port) (uses : SlotStates) (old new : Device) → IsSimulated (ReadsPortOrWrites IsCommandRegister port) AnySlotStates old new → SomeMachineAgrees uses old → (uses port.0 0 ≡ Own Identify → ⊥) → GainsNoMove port.0 Identify old new
  commands_silent port uses old new a agreed none =
      laws.fragments.unused_slot_gains_no_move (Controlling CommandRegister AnyUses port) (λ uses. uses) uses port Identify old new tt (commanding_issues port) (commanding_arms port) refl none a agreed

  clearing_issues : (port : Port) → NoneWrites (ReadsPortOrWrites IsSerrOrIs port) (Px port Ci)
  clearing_issues port = laws.control_spares_other_registers ErrorRegisters port Ci no_issue
    where
      no_issue : IsSerrOrIs Ci → ⊥
      no_issue (inl e) = absurd cc
      no_issue (inr e) = absurd cc

  -- so no command is issued
  unissued : {port : Port} (May : Access → Type 0) → NoneWrites May (Px port Ci) → {old new : Device} (made : IsDrivenBy May old new) → IssueNoCommand port made.accesses
  unissued {port} May none made = All-weaker May (DoesNotWrite (Px port Ci)) none made.accesses made.accesses_are_of_kind

  clears_silent : (port : Port) (uses : SlotStates) (old new : Device) → IsSimulated (ReadsPortOrWrites IsSerrOrIs port) AnySlotStates old new → SomeMachineAgrees uses old → (uses port.0 0 ≡ Own Identify → ⊥) → GainsNoMove port.0 Identify old new
  clears_silent port uses old new a agreed none =
      laws.fragments.unused_slot_gains_no_move (Controlling ErrorRegisters AnyUses port) (λ uses. uses) uses port Identify old new tt
      (clearing_issues port) (laws.control_spares_other_registers ErrorRegisters port Sact no_arm) refl none a agreed
    where
      no_arm : IsSerrOrIs Sact → ⊥
      no_arm (inl e) = absurd cc
      no_arm (inr e) = absurd cc

  -- plain work goes on over any accesses of a recovery
  pub plain_over : (port : Port) (uses : SlotStates) (old new : Device) → IsSimulated (IsRecoveryAccess port) AnySlotStates old new → SomeMachineAgrees uses old → WorksOnUnqueuedCommandsOnly (old.port port.0) → WorksOnUnqueuedCommandsOnly (new.port port.0)
  plain_over port uses old new a agreed =
      laws.fragments.works_plainly_still (Recovering AnyUses port) (λ uses. uses) uses port old new tt (spares_active laws port) a agreed

  -- also while it is started
  pub commands_plain : (port : Port) (old new : Device) → IsSimulated (ReadsPortOrWrites IsCommandRegister port) (λ uses. AllFree uses port.0) old new → SomeMachineAgreesWith (λ uses. AllFree uses port.0) old →
      WorksOnUnqueuedCommandsOnly (old.port port.0) → WorksOnUnqueuedCommandsOnly (new.port port.0)
  commands_plain port old new a (uses, free, agreed) = laws.fragments.works_plainly_still (Controlling CommandRegister PortUnused port) (λ uses. uses) uses port old new free (commanding_arms port) a agreed

  pub starting_silent : (port : Port) (old new : Device) → IsSimulated (ReadsPortOrWrites IsCommandRegister port) (λ uses. AllFree uses port.0) old new → SomeMachineAgreesWith (λ uses. AllFree uses port.0) old →
      GainsNoMove port.0 Identify old new
  starting_silent port old new a (uses, free, agreed) =
      laws.fragments.unused_slot_gains_no_move (Controlling CommandRegister PortUnused port) (λ uses. uses) uses port Identify old new free (commanding_issues port) (commanding_arms port) refl
      (λ own. let e : Free ≡ Own Identify = sym (free 0) ∙ own in absurd cc) a agreed

  module _ (port : Port) (v : ℕ) (old at : Device) (room : IsOnWithPortAndDriverMemory port.0 old) (may : PortMayRecover port.0 old) (agreed : SomeMachineAgreesWith AnySlotStates old) (read : Reads (Px port Tfd) v old at) where
    reading : IsSimulatedAlong (λ made. made ≡ Reading (Px port Tfd) v ∷ []) (ReadsPortOrWrites IsCommandRegister port) AnySlotStates old at
    reading = laws.fragments.reads (Controlling CommandRegister AnyUses port) (Px port Tfd) v old at refl read

    wide : IsSimulatedAlong (λ made. made ≡ Reading (Px port Tfd) v ∷ []) (IsRecoveryAccess port) AnySlotStates old at
    wide = told_commands laws (λ made. made ≡ Reading (Px port Tfd) v ∷ []) AnyUses port old at reading

    goes : Goes port old at
    goes = goes_over laws port wide.is_simulated.is_driven.accesses old at room.adapter_is_on wide.is_simulated.is_driven.accesses_are_of_kind wide.is_simulated.is_driven.all_are_done

    pub read_room : IsOnWithPortAndDriverMemory port.0 at
    read_room = room_after laws (IsRecoveryAccess port) port.0 old at wide.is_simulated.is_driven goes.on room

    pub read_agreed : SomeMachineAgreesWith AnySlotStates at
    read_agreed = (agreed.0, tt, laws.fragments.some_machine_agrees (Recovering AnyUses port) (λ uses. uses) agreed.0 old at tt wide.is_simulated agreed.2)

    -- what the reading left of the notes on the link
    same_link : ((at.port port.0).notes.last_ssts ≡ (old.port port.0).notes.last_ssts) × ((at.port port.0).notes.link_wait_count ≡ (old.port port.0).notes.link_wait_count)
    same_link =
        let link = (laws.access_notes port (Reading (Px port Tfd) v) old at read).link (λ (e : Px port Tfd ≡ Px port Ssts). absurd cc) in
        (link.0, link.1 tt)

    -- ---- its engine is stuck

    pub read_stuck : (new : Device) → ClearsStAlone (at.port port.0) (new.port port.0) → FailsToStopPort port at new → StopGetsStuck port old new
    read_stuck new has fails = record {
      is_simulated = told_commands laws (EngineSticks port) AnyUses port old new both;
      st_is_clear = has.st_is_clear;
      stuck_is_backed = fails.stuck_is_backed;
      no_identify_moves = λ (uses, none, agreed). commands_silent port uses old new both.is_simulated agreed none;
    }
      where
        both : IsSimulatedAlong (EngineSticks port) (ReadsPortOrWrites IsCommandRegister port) AnySlotStates old new
        both = told_both laws (λ made. made ≡ Reading (Px port Tfd) v ∷ []) (FailsToStop port) (EngineSticks port) (λ early late is late_is. laws.sticks_with_earlier_accesses early late port (laws.failing_sticks port late late_is))
            (Controlling CommandRegister AnyUses port) (Controlling CommandRegister AnyUses port) (λ uses. uses) (λ uses. uses) (λ access is. is) (λ uses fits. fits) old at new reading fails.is_simulated

    -- ---- or it was stopped

    module _ (mid : Device) (has : ClearsStAlone (at.port port.0) (mid.port port.0)) (halts : PortStops port at mid) where
      stopping : IsSimulatedAlong (ReadsTfdStopsAndIssuesNone port v) (ReadsPortOrWrites IsCommandRegister port) AnySlotStates old mid
      stopping = told_both laws (λ made. made ≡ Reading (Px port Tfd) v ∷ []) (λ made. Stops port made × IssueNoCommand port made) (ReadsTfdStopsAndIssuesNone port v)
          (λ early late is stops. reads_and_stops port v early late is (laws.falls_with_earlier_accesses early late 0 15 port) stops.0 stops.1)
          (Controlling CommandRegister AnyUses port) (Controlling CommandRegister AnyUses port) (λ uses. uses) (λ uses. uses) (λ access is. is) (λ uses fits. fits) old at mid reading
          (record { is_simulated = halts.is_simulated.is_simulated; accesses_are_such = (halts.is_simulated.accesses_are_such, unissued (ReadsPortOrWrites IsCommandRegister port) (commanding_issues port) halts.is_simulated.is_simulated.is_driven) })

      stops : IsSimulatedAlong (ReadsTfdStopsAndIssuesNone port v) (IsRecoveryAccess port) AnySlotStates old mid
      stops = told_commands laws (ReadsTfdStopsAndIssuesNone port v) AnyUses port old mid stopping

      goes_mid : Goes port old mid
      goes_mid = goes_over laws port stops.is_simulated.is_driven.accesses old mid room.adapter_is_on stops.is_simulated.is_driven.accesses_are_of_kind stops.is_simulated.is_driven.all_are_done

      pub stopped_room : IsOnWithPortAndDriverMemory port.0 mid
      stopped_room = room_after laws (IsRecoveryAccess port) port.0 old mid stops.is_simulated.is_driven goes_mid.on room

      stopped_uses : SomeMachineAgrees agreed.0 mid
      stopped_uses = laws.fragments.some_machine_agrees (Recovering AnyUses port) (λ uses. uses) agreed.0 old mid tt stops.is_simulated agreed.2

      pub stopped_agreed : SomeMachineAgreesWith AnySlotStates mid
      stopped_agreed = (agreed.0, tt, stopped_uses)

      pub stopped_receives : IsStoppedReceiving port.0 (mid.port port.0)
      stopped_receives =
          let s = laws.read_changes_port_register port Tfd v old at read room.adapter_is_on.no_reset in
          record {
            stopped = halts.stopped;
            fre_is_set = has.fre_is_kept ∙ ((s.keeps.keeps_outside_reset.controls_are_kept port.0).fre_is_kept ∙ may.fre_is_set);
            areas_are_in_place = has.bases_are_kept ∙ ((s.keeps.ports_keep_what_steps_keep port.0).bases_are_kept ∙ may.areas_are_in_place);
          }

      pub stopped_undue : (mid.port port.0).link_due ≡ false
      stopped_undue = goes_mid.undue may.faults_are_on_record.no_link_is_due

      pub stopped_det : (mid.port port.0).sctl_det ≡ 0
      stopped_det = goes_mid.det ∙ may.no_comreset

      module _ (after : ℕ) (new : Device) (followed : IsSimulated (ReadsPortOrWrites IsSerrOrIs port) AnySlotStates mid new) (f : ClearsErrorState port after mid new) where
        forgets : IsSimulatedAlong (IssueNoCommand port) (IsRecoveryAccess port) AnySlotStates mid new
        forgets = told_wider laws (IssueNoCommand port) (Controlling ErrorRegisters AnyUses port) (Recovering AnyUses port) (λ uses. uses) mid new (clears_recover laws port) (λ uses fits. fits)
            (record { is_simulated = followed; accesses_are_such = unissued (ReadsPortOrWrites IsSerrOrIs port) (clearing_issues port) followed.is_driven })

        goes_new : Goes port mid new
        goes_new = goes_over laws port forgets.is_simulated.is_driven.accesses mid new goes_mid.on forgets.is_simulated.is_driven.accesses_are_of_kind forgets.is_simulated.is_driven.all_are_done

        free : SomeMachineAgreesWith (λ uses. (slot : ℕ) → uses port.0 slot ≡ Free) new
        free =
            let g = agreed_free laws agreed.0 port.0 mid halts.stopped.engine_is_stopped stopped_uses in
            (g.0, g.1, laws.fragments.some_machine_agrees (Recovering AnyUses port) (λ uses. uses) g.0 mid new tt forgets.is_simulated g.2)

        pub quiets : StopsAndClears port v after old new
        quiets = record {
          is_on_with_driver_memory = room_after laws (IsRecoveryAccess port) port.0 mid new forgets.is_simulated.is_driven goes_new.on stopped_room;
          stopped = mid;
          stops = stops;
          engine_is_stopped = halts.stopped.engine_is_stopped;
          issues_none_after_stop = forgets;
          receives = f.receives;
          no_comreset = goes_new.det ∙ stopped_det;
          last_tfd_is = f.last_tfd_is;
          link_was_seen = ap (λ (n : ℕ). n % 16) (f.last_ssts_is_kept ∙ (ap (λ (n : Notes). n.last_ssts) has.other_notes_are_kept ∙ same_link.0)) ∙ may.link_was_seen;
          link_wait_count_is_kept = f.link_wait_count_is_kept ∙ (ap (λ (n : Notes). n.link_wait_count) has.other_notes_are_kept ∙ same_link.1);
          no_cause_is_set = f.no_cause_is_set;
          serr_shows_only_new_plugs = record {
            serr_n_is_clear = λ none. f.serr_shows_only_new_plugs.serr_n_is_clear (plugs_in_parts laws port.0 old mid new goes_mid.grows goes_new.grows none).1;
            serr_x_is_clear = λ none. f.serr_shows_only_new_plugs.serr_x_is_clear (laws.tape.no_disk_comes_in_parts port.0 old mid new goes_mid.grows.0 goes_new.grows.0 goes_mid.grows.1 goes_new.grows.1 none).1;
          };
          is_clean_to_start = f.is_clean_to_start;
          machine_is_related = free;
          plain_port_stays_plain = λ plain. plain_over port agreed.0 mid new forgets.is_simulated stopped_uses (plain_over port agreed.0 old mid stops.is_simulated agreed.2 plain);
          no_identify_moves = λ (uses, none, here).
              laws.no_moves_compose port.0 Identify old mid new (commands_silent port uses old mid stopping.is_simulated here none)
              (clears_silent port uses mid new followed (laws.fragments.some_machine_agrees (Recovering AnyUses port) (λ uses. uses) uses old mid tt stops.is_simulated here) none);
        }
