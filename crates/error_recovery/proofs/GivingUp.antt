-- A port is given up: it is stopped, and so it has to be booted, or it is dead.
use Rattle.std.proofs.Common.{ℕ, Bool, ◌≡◌, ◌++◌, [], None, refl, sym, subst}
use Rattle.std.specs.Prelude.{All}
use Rattle.std.proofs.lemmas.List.Elements.{All-append, All-nil}
use Rattle.ata_types.specs.declared.Port.{Port}
use Rattle.hba_regs.specs.declared.reg.PortReg.TheVariants.{Ci, Sact}
use Rattle.adapter.specs.Device.{Device}
use Rattle.adapter.specs.Rules.{IsOn}
use Rattle.refinement.specs.Fragments.{AnySlotStates, ReadsPortOrWrites, IsSimulatedAlong}
use Rattle.refinement.specs.Driver.{AllFree}
use Rattle.port_control.specs.Engines.{EngineSticks, Stops}
use Rattle.port_control.specs.Ports.{FailsToStopPort, PortStops, ClearsStAlone, IsCommandRegister}
use Rattle.port_control.specs.declared.Stopped as stopped_token
use Rattle.error_recovery.specs.declared.Next.TheVariants.{Dead, Restart}
use Rattle.error_recovery.specs.Laws.{Laws}
use Rattle.error_recovery.specs.Laws.SlotCondition.{AnyUses, PortUnused}
use Rattle.error_recovery.specs.Laws.RegisterSet.{CommandRegister}
use Rattle.error_recovery.specs.Laws.AccessPurpose.{Controlling, Recovering}
use Rattle.error_recovery.specs.RecoveryParts.{StopGetsStuck}
use Rattle.error_recovery.specs.Recovery.{StopsOrSticksForReset, IsRecoveryAccess}
use Rattle.error_recovery.proofs.Finishing.{accesses_stuck, all_go_again, mends_stuck}
use Rattle.error_recovery.proofs.Going.{Goes, goes_over}
use Rattle.error_recovery.proofs.Quieting.{commands_silent}
use Rattle.error_recovery.proofs.Stretching.{only_commands, told_commands, told_wider}
use Rattle.error_recovery.proofs.Whole.{spares_other}

module _ (laws : Laws) (port : Port) (outstanding : ℕ) (queued : Bool) (old new : Device) (on : IsOn old) where
  -- its engine is stuck
  pub gives_up_stuck : ClearsStAlone (old.port port.0) (new.port port.0) → FailsToStopPort port old new → StopsOrSticksForReset port outstanding queued (record { failed = None; again = outstanding; next = Dead }) old new
  gives_up_stuck has fails = record {
    handling = mends_stuck laws port outstanding queued old new on gets;
    only_cmd_is_written = subst (All (ReadsPortOrWrites IsCommandRegister port)) (sym (accesses_stuck laws port outstanding queued old new on gets)) (only_commands laws (EngineSticks port) AnyUses port old new sticks);
    none_is_named = refl;
    is_not_running = λ token run. absurd cc;
  }
    where
      sticks : IsSimulatedAlong (EngineSticks port) (ReadsPortOrWrites IsCommandRegister port) AnySlotStates old new
      sticks = told_wider laws (EngineSticks port) (Controlling CommandRegister AnyUses port) (Controlling CommandRegister AnyUses port) (λ uses. uses) old new (λ access is. is) (λ uses fits. fits)
          (record { is_simulated = fails.is_simulated.is_simulated; accesses_are_such = laws.failing_sticks port fails.is_simulated.is_simulated.is_driven.accesses fails.is_simulated.accesses_are_such })

      gets : StopGetsStuck port old new
      gets = record {
        is_simulated = told_commands laws (EngineSticks port) AnyUses port old new sticks;
        st_is_clear = has.st_is_clear;
        stuck_is_backed = fails.stuck_is_backed;
        no_identify_moves = λ (uses, none, agreed). commands_silent laws port uses old new fails.is_simulated.is_simulated agreed none;
      }

  -- or it was stopped
  pub gives_up_stopped : (token : stopped_token.Stopped) → token.port ≡ port → PortStops port old new → StopsOrSticksForReset port outstanding queued (record { failed = None; again = outstanding; next = Restart token }) old new
  gives_up_stopped token names halts = record {
    handling = record {
      accesses = t.is_simulated.is_driven.accesses ++ rest.is_simulated.is_driven.accesses;
      does = record {
        accesses_are_recovery = All-append (IsRecoveryAccess port) t.is_simulated.is_driven.accesses rest.is_simulated.is_driven.accesses t.is_simulated.is_driven.accesses_are_of_kind rest.is_simulated.is_driven.accesses_are_of_kind;
        slots_after = laws.fragments.parts_join_by_giving_up (Recovering AnyUses port) (Recovering PortUnused port) (λ uses. uses) port.0 old new new t.is_simulated halts.stopped.engine_is_stopped (λ uses free. free) rest.is_simulated;
        tells_engine_outcome = laws.falls_with_later_accesses t.is_simulated.is_driven.accesses rest.is_simulated.is_driven.accesses 0 15 port t.accesses_are_such;
      };
      tells = record { splits_outstanding = all_go_again outstanding; failure_is_backed = tt; dead_names_none = λ e. absurd cc; queued_restart_names_none = λ at is run. refl };
      leaves = record {
        ends_as_next = (names, halts.stopped);
        sctl_det_is_kept = went.det;
        sctl_time_is_kept = went.written;
        ie_is_kept = went.enabled;
        no_identify_moves = λ (uses, none, agreed). commands_silent laws port uses old new halts.is_simulated.is_simulated agreed none;
        other_ports_move_no_unasked_page = λ q o apart own (uses, none, agreed).
            laws.fragments.unused_slot_gains_no_move (Recovering AnyUses port) (λ uses. uses) uses q o old new tt (spares_other laws port q Ci apart) (spares_other laws port q Sact apart) own none t.is_simulated agreed;
      };
    };
    only_cmd_is_written = All-append (ReadsPortOrWrites IsCommandRegister port) t.is_simulated.is_driven.accesses rest.is_simulated.is_driven.accesses (only_commands laws (Stops port) AnyUses port old new halts.is_simulated)
        (subst (All (ReadsPortOrWrites IsCommandRegister port)) (sym rest.accesses_are_such) (All-nil (ReadsPortOrWrites IsCommandRegister port)));
    none_is_named = refl;
    is_not_running = λ at run. absurd cc;
  }
    where
      t : IsSimulatedAlong (Stops port) (IsRecoveryAccess port) AnySlotStates old new
      t = told_commands laws (Stops port) AnyUses port old new halts.is_simulated

      rest : IsSimulatedAlong (λ made. made ≡ []) (IsRecoveryAccess port) (λ uses. AllFree uses port.0) new new
      rest = laws.fragments.empty_fragment_is_simulated (Recovering PortUnused port) new

      went : Goes port old new
      went = goes_over laws port t.is_simulated.is_driven.accesses old new on t.is_simulated.is_driven.accesses_are_of_kind t.is_simulated.is_driven.all_are_done
