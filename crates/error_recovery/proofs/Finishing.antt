-- Recovery to its ends: the port runs again, has to be booted, or is dead.
use Rattle.hba_regs.specs.declared.reg.Reg.TheVariants.{Px}
use Rattle.refinement.specs.PreservedParts.{DoesNotWrite}
use Rattle.std.proofs.Common.{ℕ, Bool, ◌≡◌, ◌≢◌, ◌%◌, ◌/◌, ◌||◌, true, false, List, [], Option, None, Some, IfSome, IfNone, length, inl, inr, refl, sym, ◌∙◌, ap, subst, append-nil, ◌⊎◌}
use Rattle.std.proofs.lemmas.Bool.{true≢false}
use Rattle.std.proofs.lemmas.List.Elements.{All-nil, All-weaker, All-append}
use Rattle.ata_types.specs.declared.Port.{Port}
use Rattle.hba_regs.specs.Bits.{bit}
use Rattle.hba_regs.specs.declared.reg.PortReg.{PortReg}
use Rattle.adapter.specs.declared.command.Operation.{Operation}
use Rattle.hba_regs.specs.declared.reg.PortReg.TheVariants.{Ci, Cmd, Sact}
use Rattle.adapter.specs.Access.{Access}
use Rattle.adapter.specs.Device.{Device, Notes}
use Rattle.adapter.specs.Device.Halt.{NotHalted}
use Rattle.adapter.specs.Rules.{IsOn}
use Rattle.adapter.specs.declared.command.Operation.TheVariants.{Identify, ReadLog}
use Rattle.refinement.specs.Fragments.{SomeMachineAgreesWith, AnySlotStates, SomeMachineAgrees, ReadsPortOrWrites, IsDrivenBy, IsSimulated, IsSimulatedChangingUses, IsSimulatedAlongChangingUses, GainsNoMove}
use Rattle.refinement.specs.Driver.{AllFree}
use Rattle.refinement.specs.Slots.{Free, IsMove, Own, SlotStates, set_slot_state, client_operation_of}
use Rattle.disk_page.specs.PageRequests.{BringsLastPage, IsPxciOrSlot0PageMemoryAccess, LeavesPortWhileAsking, WaitsForSlot0InVain}
use Rattle.command_table.specs.TableStores.{IsSlotStateFree}
use Rattle.error_recovery.specs.ErrorLog.{NamesNoQueuedCommand}
use Rattle.ata_types.specs.declared.Slot.{Slot}
use Rattle.port_control.specs.Engines.{FailsToStop, EngineSticks, Stops}
use Rattle.port_control.specs.Ports.{FailsToStopPort, PortStops, ClearsStAlone, IsCommandRegister}
use Rattle.port_control.specs.declared.Running as running_token
use Rattle.port_control.specs.declared.Stopped as stopped_token
use Rattle.error_recovery.specs.Evidence.{BringsLastLogPage}
use Rattle.error_recovery.specs.declared.Next.{Next}
use Rattle.error_recovery.specs.declared.Next.TheVariants.{Running, Restart, Dead}
use Rattle.error_recovery.specs.declared.Recovered as recovered
use Rattle.error_recovery.specs.Laws.{Laws}
use Rattle.error_recovery.specs.Laws.SlotCondition.{AnyUses, PortUnused}
use Rattle.error_recovery.specs.Laws.RegisterSet.{AllButCi, CommandRegister}
use Rattle.error_recovery.specs.Laws.AccessPurpose.{Asking, Controlling, Recovering}
use Rattle.error_recovery.specs.RecoveryParts.{StopGetsStuck, StartsAgain, IsOnWithPortAndDriverMemory, MayStartAgain, ReadsLog, IsStoppedAndCleared}
use Rattle.error_recovery.specs.Recovery.{EndsAsNext, IsRecoveryAccess, IsLeftByRecovery, IsSimulatedWithSlotsSurelyParkedUnlessDead, PortMayRecover, RecoversOrStops, NamesSlotNotOutstanding, SplitsOutstanding, Recovers, BacksFailure, StopsThenWaits}
use Rattle.error_recovery.proofs.Going.{Asks, Goes, asks_over, goes_over}
use Rattle.error_recovery.proofs.Quieting.{commands_silent, starting_silent}
use Rattle.error_recovery.proofs.Resting.{IsTold, brings_log}
use Rattle.error_recovery.proofs.Running.{asked_running, no_command, runs_plain, runs_queued}
use Rattle.error_recovery.proofs.Starting.{tag_is_small}
use Rattle.error_recovery.proofs.Stretching.{commands_recover, followed_commands, room_after, told_both}
use Rattle.error_recovery.proofs.Whole.{quieted_told, silent_others, spares_other, asked, goes, only, performs, quieted, started, stops, told, total}

-- nobody is named
pub all_go_again : (outstanding : ℕ) → SplitsOutstanding outstanding None outstanding
all_go_again outstanding = record { each_is_in_one = λ slot small set. inr set; again_is_outstanding_and_unnamed = λ slot small set. (set, λ named. named) }

-- what a plain command that is named rests on
pub rests_on_fault : (port : Port) (outstanding shown : ℕ) (accesses : List Access) (old new : Device) → IsTold port false shown accesses old new → (failed : Option (Slot × ℕ × ℕ)) →
    IfSome failed (λ f. (f.0.0 ≡ 0) × (bit outstanding 0 ≡ true) × (f.1 ≡ shown % 256) × (f.2 ≡ shown / 256 % 256)) → BacksFailure false port outstanding accesses old new failed
rests_on_fault port outstanding shown accesses old new t None is = tt
rests_on_fault port outstanding shown accesses old new t (Some f) is = record {
  slot_is = is.0;
  is_outstanding = is.1;
  fault = t.fault;
  has_failed = t.has_failed;
  fault_slot_is = t.fault_slot_is refl;
  status_is = t.status_is ∙ sym is.2;
  error_is = t.error_is ∙ sym is.3;
}

-- an outstanding plain command is named
pub is_named : (outstanding : ℕ) (failed : Option (Slot × ℕ × ℕ)) → IfNone failed (bit outstanding 0 ≡ false) → bit outstanding 0 ≡ true → failed ≢ None
is_named outstanding None none set = absurd (true≢false (sym set ∙ none))
is_named outstanding (Some f) none set = λ e. absurd cc

-- ST may be set
pub may_go_on : (port : Port) (outstanding : ℕ) (queued : Bool) (before after : ℕ) (old d : Device) → IsStoppedAndCleared port outstanding queued before after old d → bit after 7 || bit after 3 ≡ false → MayStartAgain port.0 d
may_go_on port outstanding queued before after old d r idle =
    let q = r.stops_and_clears in
    record { is_on_with_driver_memory = q.is_on_with_driver_memory; receives = q.receives; link_was_seen = q.link_was_seen; disk_was_idle = ap (λ (v : ℕ). bit v 7 || bit v 3) q.last_tfd_is ∙ idle; is_clean_to_start = q.is_clean_to_start; machine_is_related = q.machine_is_related }

-- of what a call is asked, so it goes on
pub resumes_at : (port at : Port) (outstanding : ℕ) (queued is : Bool) (before after : ℕ) (old d : Device) → at ≡ port → queued ≡ is → IsStoppedAndCleared port outstanding queued before after old d →
    IsStoppedAndCleared at outstanding is before after old d
resumes_at port at outstanding queued is before after old d names same r =
    let P : Port → Type 0 = λ p. IsStoppedAndCleared p outstanding is before after old d in
    subst P (sym names) (subst (λ (q : Bool). IsStoppedAndCleared port outstanding q before after old d) same r)

pub recovers_at : (port at : Port) (outstanding : ℕ) (queued is : Bool) (result : recovered.Recovered) (old new : Device) → at ≡ port → queued ≡ is → Recovers at outstanding is result old new →
    Recovers port outstanding queued result old new
recovers_at port at outstanding queued is result old new names same r =
    let P : Port → Type 0 = λ p. Recovers p outstanding is result old new in
    subst (λ (q : Bool). Recovers port outstanding q result old new) (sym same) (subst P names r)

module _ (laws : Laws) where
  -- the log was read, and named none
  pub log_room : (port : Port) (outstanding : ℕ) (start log : Device) → IsOn log → ReadsLog port outstanding None start log → IsOnWithPortAndDriverMemory port.0 start → IsOnWithPortAndDriverMemory port.0 log
  log_room port outstanding start log on (inl (count, a)) room = room_after laws (IsPxciOrSlot0PageMemoryAccess port) port.0 start log a.is_simulated.is_driven on room
  log_room port outstanding start log on (inr (page, (brings, a), why)) room = room_after laws (IsPxciOrSlot0PageMemoryAccess port) port.0 start log a.is_driven on room

  -- ---- the port wasn't even stopped

  pub mends_stuck : (port : Port) (outstanding : ℕ) (queued : Bool) (old new : Device) → IsOn old → StopGetsStuck port old new →
      RecoversOrStops port outstanding queued (record { failed = None; again = outstanding; next = Dead }) old new
  mends_stuck port outstanding queued old new on g =
      let made = g.is_simulated.is_simulated.is_driven in
      let went : Goes port old new = goes_over laws port made.accesses old new on made.accesses_are_of_kind made.all_are_done in
      record {
        accesses = made.accesses;
        does = record { accesses_are_recovery = made.accesses_are_of_kind; slots_after = inl (laws.fragments.fragment_is_a_part (Recovering AnyUses port) (λ uses. uses) old new g.is_simulated.is_simulated); tells_engine_outcome = g.is_simulated.accesses_are_such };
        tells = record { splits_outstanding = all_go_again outstanding; failure_is_backed = tt; dead_names_none = λ e. refl; queued_restart_names_none = λ token is run. absurd cc };
        leaves = record {
          ends_as_next = (g.st_is_clear, g.stuck_is_backed);
          sctl_det_is_kept = went.det;
          sctl_time_is_kept = went.written;
          ie_is_kept = went.enabled;
          no_identify_moves = g.no_identify_moves;
          other_ports_move_no_unasked_page = λ q o apart own (uses, none, agreed).
              laws.fragments.unused_slot_gains_no_move (Recovering AnyUses port) (λ uses. uses) uses q o old new tt (spares_other laws port q Ci apart) (spares_other laws port q Sact apart) own none g.is_simulated.is_simulated agreed;
        };
      }

  -- and its accesses are those by which it got stuck
  pub accesses_stuck : (port : Port) (outstanding : ℕ) (queued : Bool) (old new : Device) (on : IsOn old) (g : StopGetsStuck port old new) →
      (mends_stuck port outstanding queued old new on g).accesses ≡ g.is_simulated.is_simulated.is_driven.accesses
  unfolding mends_stuck
  accesses_stuck port outstanding queued old new on g = refl

  pub is_stuck : (port : Port) (outstanding : ℕ) (queued : Bool) (old new : Device) → IsOn old → PortMayRecover port.0 old → StopGetsStuck port old new →
      Recovers port outstanding queued (record { failed = None; again = outstanding; next = Dead }) old new
  is_stuck port outstanding queued old new on may g = record {
    handling = mends_stuck port outstanding queued old new on g;
    tells = record { queued_running_names_one = λ token is run. absurd cc; plain_is_named_unless_dead = λ is set alive. absurd (alive refl); restart_is_explained = λ token run. absurd cc };
  }

  module _ (port : Port) (outstanding : ℕ) (queued : Bool) (before after : ℕ) (old d : Device) (r : IsStoppedAndCleared port outstanding queued before after old d) where
    went : Goes port old d
    went = goes laws port outstanding queued before after old d r (λ uses. uses) d (quieted laws port outstanding queued before after old d r)

    -- what a recovery leaves, however it ends
    leaves : (next : Next) (new : Device) → Goes port old new → EndsAsNext queued port next old new → (SomeMachineAgreesWith (λ uses. uses port.0 0 ≡ Own Identify → ⊥) old → GainsNoMove port.0 Identify old new) →
        ((q : Port) (o : Operation) → q.0 ≢ port.0 → client_operation_of o ≡ None → SomeMachineAgreesWith (λ uses. uses q.0 0 ≡ Own o → ⊥) old → GainsNoMove q.0 o old new) → IsLeftByRecovery port queued next old new
    leaves next new w ends silent others = record { ends_as_next = ends; sctl_det_is_kept = w.det; sctl_time_is_kept = w.written; ie_is_kept = w.enabled; no_identify_moves = silent; other_ports_move_no_unasked_page = others }

    -- ---- its disk is busy

    pub is_busy : (failed : Option (Slot × ℕ × ℕ)) (again : ℕ) (token : stopped_token.Stopped) → token.port ≡ port → bit after 7 || bit after 3 ≡ true → SplitsOutstanding outstanding failed again →
        (BacksFailure queued port outstanding (total laws port outstanding queued before after old d r (λ uses. uses) d (quieted laws port outstanding queued before after old d r)) old d failed) →
        (queued ≡ false → bit outstanding 0 ≡ true → failed ≢ None) → (queued ≡ true → failed ≡ None) → Recovers port outstanding queued (record { failed = failed; again = again; next = Restart token }) old d
    is_busy failed again token names occupied parts rests named unnamed =
        let b = quieted laws port outstanding queued before after old d r in
        record {
          handling = record {
            accesses = total laws port outstanding queued before after old d r (λ uses. uses) d b;
            does = record {
              accesses_are_recovery = only laws port outstanding queued before after old d r (λ uses. uses) d b;
              slots_after = performs laws port outstanding queued before after old d r (λ uses. uses) d b;
              tells_engine_outcome = stops laws port outstanding queued before after old d r (λ uses. uses) d b;
            };
            tells = record {
              splits_outstanding = parts;
              failure_is_backed = rests;
              dead_names_none = λ e. absurd cc;
              queued_restart_names_none = λ at is run. unnamed is;
            };
            leaves = leaves (Restart token) d went (names, r.stops_and_clears.receives.stopped) r.stops_and_clears.no_identify_moves (silent_others laws port outstanding queued before after old d r (λ uses. uses) d b);
          };
          tells = record {
            queued_running_names_one = λ at is run. absurd cc;
            plain_is_named_unless_dead = λ is set alive. named is set;
            restart_is_explained = λ at run. inl (
              All-append (DoesNotWrite (Px port Ci)) r.stops_and_clears.stops.is_simulated.is_driven.accesses b.is_driven.accesses r.stops_and_clears.stops.accesses_are_such.2 (quieted_told laws port outstanding queued before after old d r).accesses_are_such,
              λ idle. absurd (true≢false (sym occupied ∙ (ap (λ (v : ℕ). bit v 7 || bit v 3) (sym r.stops_and_clears.last_tfd_is) ∙ idle))),
            );
          };
        }

    -- ---- it was started again

    module _ (start : Device) (s : StartsAgain port d start) where
      pub b_start : IsSimulated (IsRecoveryAccess port) (λ uses. AllFree uses port.0) r.stops_and_clears.stopped start
      b_start = started laws port outstanding queued before after old d r start s

      goes_start : Goes port old start
      goes_start = goes laws port outstanding queued before after old d r (λ uses. uses) start b_start

      starting : Goes port d start
      starting = let made = (followed_commands laws PortUnused port d start s.starts).is_driven in goes_over laws port made.accesses d start went.on made.accesses_are_of_kind made.all_are_done

      silent_start : SomeMachineAgreesWith (λ uses. uses port.0 0 ≡ Own Identify → ⊥) old → GainsNoMove port.0 Identify old start
      silent_start a = laws.no_moves_compose port.0 Identify old d start (r.stops_and_clears.no_identify_moves a) (starting_silent laws port d start s.starts r.stops_and_clears.machine_is_related)

      -- a plain command failed
      pub goes_again : (failed : Option (Slot × ℕ × ℕ)) (again : ℕ) (token : running_token.Running) → token.port ≡ port → queued ≡ false → SplitsOutstanding outstanding failed again →
          BacksFailure queued port outstanding (total laws port outstanding queued before after old d r (λ uses. uses) start b_start) old start failed →
          (bit outstanding 0 ≡ true → failed ≢ None) → Recovers port outstanding queued (record { failed = failed; again = again; next = Running token }) old start
      goes_again failed again token names is parts rests named = record {
        handling = record {
          accesses = total laws port outstanding queued before after old d r (λ uses. uses) start b_start;
          does = record {
            accesses_are_recovery = only laws port outstanding queued before after old d r (λ uses. uses) start b_start;
            slots_after = performs laws port outstanding queued before after old d r (λ uses. uses) start b_start;
            tells_engine_outcome = stops laws port outstanding queued before after old d r (λ uses. uses) start b_start;
          };
          tells = record {
            splits_outstanding = parts;
            failure_is_backed = rests;
            dead_names_none = λ e. absurd cc;
            queued_restart_names_none = λ at on run. absurd cc;
          };
          leaves = leaves (Running token) start goes_start (names, runs_plain laws port outstanding queued before after old d r went start s starting goes_start is) silent_start (silent_others laws port outstanding queued before after old d r (λ uses. uses) start b_start);
        };
        tells = record {
          queued_running_names_one = λ at on run. absurd (true≢false (sym on ∙ is));
          plain_is_named_unless_dead = λ off set alive. named set;
          restart_is_explained = λ at run. absurd cc;
        };
      }

      pub goes_again_told : IsTold port queued before (total laws port outstanding queued before after old d r (λ uses. uses) start b_start) old start
      goes_again_told = told laws port outstanding queued before after old d r (λ uses. uses) start b_start

      -- ---- its log was read

      module _ (log : Device) (on : queued ≡ true) (l : LeavesPortWhileAsking port.0 start log) (silent_log : GainsNoMove port.0 Identify start log) where
        silent_now : SomeMachineAgreesWith (λ uses. uses port.0 0 ≡ Own Identify → ⊥) old → GainsNoMove port.0 Identify old log
        silent_now a = laws.no_moves_compose port.0 Identify old start log (silent_start a) silent_log

        b_log : IsSimulated (IsPxciOrSlot0PageMemoryAccess port) (IsSlotStateFree port.0 0) start log → IsSimulated (IsRecoveryAccess port) (λ uses. AllFree uses port.0) r.stops_and_clears.stopped log
        b_log a = (asked laws port outstanding queued before after old d r (λ made. Unit {0}) (λ early late is. is) (λ uses. uses) start log s (record { is_simulated = a; accesses_are_such = tt })).is_simulated

        b_vain : IsSimulatedAlongChangingUses (WaitsForSlot0InVain port) (IsPxciOrSlot0PageMemoryAccess port) (IsSlotStateFree port.0 0) (λ uses. set_slot_state uses port.0 0 (Own ReadLog)) start log →
            IsSimulatedAlongChangingUses (WaitsForSlot0InVain port) (IsRecoveryAccess port) (λ uses. AllFree uses port.0) (λ uses. set_slot_state uses port.0 0 (Own ReadLog)) r.stops_and_clears.stopped log
        b_vain a = asked laws port outstanding queued before after old d r (WaitsForSlot0InVain port) (λ early late is. laws.vain_with_earlier_accesses port early late is) (λ uses. set_slot_state uses port.0 0 (Own ReadLog)) start log s a

        asking : (next : SlotStates → SlotStates) → IsSimulatedChangingUses (IsPxciOrSlot0PageMemoryAccess port) (IsSlotStateFree port.0 0) next start log → Asks port start log
        asking next a = asks_over laws port a.is_driven.accesses start log goes_start.on a.is_driven.accesses_are_of_kind a.is_driven.all_are_done

        recovers_asked : (next : SlotStates → SlotStates) → IsSimulatedChangingUses (IsPxciOrSlot0PageMemoryAccess port) (IsSlotStateFree port.0 0) next start log → Goes port start log
        recovers_asked next a =
            goes_over laws port a.is_driven.accesses start log goes_start.on (All-weaker (IsPxciOrSlot0PageMemoryAccess port) (IsRecoveryAccess port) (λ access is. inr is) a.is_driven.accesses a.is_driven.accesses_are_of_kind) a.is_driven.all_are_done

        -- and names one
        pub names_one : (failed : Slot × ℕ × ℕ) (again : ℕ) (token : running_token.Running) → token.port ≡ port → (log.port port.0).halt ≡ NotHalted → ReadsLog port outstanding (Some failed) start log →
            SplitsOutstanding outstanding (Some failed) again → Recovers port outstanding queued (record { failed = Some failed; again = again; next = Running token }) old log
        names_one failed again token names running (page, (brings, a), tells, among) parts =
            let b = b_log a in
            let w = goes laws port outstanding queued before after old d r (λ uses. uses) log b in
            let t = told laws port outstanding queued before after old d r (λ uses. uses) log b in
            let came = brings_log port old start log log page goes_start.grows w.grows brings ([], sym (append-nil log.tape), All-nil (λ e. IsMove port.0 ReadLog e → ⊥)) in
            let Q : Bool → Type 0 = λ q. BacksFailure q port outstanding (total laws port outstanding queued before after old d r (λ uses. uses) log b) old log (Some failed) in
            record {
              handling = record {
                accesses = total laws port outstanding queued before after old d r (λ uses. uses) log b;
                does = record {
                  accesses_are_recovery = only laws port outstanding queued before after old d r (λ uses. uses) log b;
                  slots_after = performs laws port outstanding queued before after old d r (λ uses. uses) log b;
                  tells_engine_outcome = stops laws port outstanding queued before after old d r (λ uses. uses) log b;
                };
                tells = record {
                  splits_outstanding = parts;
                  failure_is_backed = subst Q (sym on) (record {
                    slot_in_range = tag_is_small page failed.0.0 failed.1 failed.2 tells;
                    is_outstanding = among;
                    fault = t.fault;
                    has_failed = t.has_failed;
                    last_log_page = page;
                    brings = came;
                    tells = tells;
                  });
                  dead_names_none = λ e. absurd cc;
                  queued_restart_names_none = λ at is run. absurd cc;
                };
                leaves = leaves (Running token) log w
                    (names, runs_queued laws port outstanding queued before after old d r went start log s starting l (asking (λ uses. uses) a) (recovers_asked (λ uses. uses) a) brings.slot_is_clear.over running on) silent_now (silent_others laws port outstanding queued before after old d r (λ uses. uses) log b);
              };
              tells = record {
                queued_running_names_one = λ at is run e. absurd cc;
                plain_is_named_unless_dead = λ off. absurd (true≢false (sym on ∙ off));
                restart_is_explained = λ at run. absurd cc;
              };
            }

        -- ---- or none, and the port was to stop

        module _ (new : Device) where
          page_free : IsSimulated (IsPxciOrSlot0PageMemoryAccess port) (IsSlotStateFree port.0 0) start log → SomeMachineAgreesWith (λ uses. AllFree uses port.0) log
          page_free a = let g = s.machine_is_related in (g.0, g.1, laws.fragments.some_machine_agrees (Asking port) (λ uses. uses) g.0 start log (g.1 0) a g.2)

          -- no page of IDENTIFY DEVICE comes meanwhile
          stop_silent : (uses : SlotStates) → SomeMachineAgrees uses log → (uses port.0 0 ≡ Own Identify → ⊥) → IsSimulated (ReadsPortOrWrites IsCommandRegister port) AnySlotStates log new →
              SomeMachineAgreesWith (λ uses. uses port.0 0 ≡ Own Identify → ⊥) old → GainsNoMove port.0 Identify old new
          stop_silent uses agreed none a o = laws.no_moves_compose port.0 Identify old log new (silent_now o) (commands_silent laws port uses log new a agreed none)

          page_silent : IsSimulated (IsPxciOrSlot0PageMemoryAccess port) (IsSlotStateFree port.0 0) start log → IsSimulated (ReadsPortOrWrites IsCommandRegister port) AnySlotStates log new →
              SomeMachineAgreesWith (λ uses. uses port.0 0 ≡ Own Identify → ⊥) old → GainsNoMove port.0 Identify old new
          page_silent a c = let g = page_free a in stop_silent g.0 g.2 (λ own. let e : Free ≡ Own Identify = sym (g.1 0) ∙ own in absurd cc) c

          vain_silent : IsSimulatedChangingUses (IsPxciOrSlot0PageMemoryAccess port) (IsSlotStateFree port.0 0) (λ uses. set_slot_state uses port.0 0 (Own ReadLog)) start log → IsSimulated (ReadsPortOrWrites IsCommandRegister port) AnySlotStates log new →
              SomeMachineAgreesWith (λ uses. uses port.0 0 ≡ Own Identify → ⊥) old → GainsNoMove port.0 Identify old new
          vain_silent a c =
              let g = s.machine_is_related in
              let agreed = laws.fragments.some_machine_agrees (Asking port) (λ uses. set_slot_state uses port.0 0 (Own ReadLog)) g.0 start log (g.1 0) a g.2 in
              stop_silent (set_slot_state g.0 port.0 0 (Own ReadLog)) agreed (λ own. let e : Own ReadLog ≡ Own Identify = sym (laws.slot_has_state_set g.0 port.0 0 ReadLog) ∙ own in absurd cc) c

          -- the page that came is the last one still
          still_last : (page : List ℕ) → BringsLastPage port.0 ReadLog (length start.tape) page log → IsSimulated (IsPxciOrSlot0PageMemoryAccess port) (IsSlotStateFree port.0 0) start log → IsDrivenBy (ReadsPortOrWrites IsCommandRegister port) log new →
              BringsLastLogPage port old new page
          still_last page brings a c =
              let w = goes laws port outstanding queued before after old d r (λ uses. uses) log (b_log a) in
              let runs = asked_running laws port.0 start log s.runs l brings.slot_is_clear.over in
              let others : (q : PortReg) → IsCommandRegister q → q ≢ Ci = λ q is same. let e : Cmd ≡ Ci = sym is ∙ same in absurd cc in
              let unissued : IsDrivenBy (ReadsPortOrWrites (λ q. q ≢ Ci) port) log new = record {
                accesses = c.accesses;
                all_are_done = c.all_are_done;
                accesses_are_of_kind = All-weaker (ReadsPortOrWrites IsCommandRegister port) (ReadsPortOrWrites (λ q. q ≢ Ci) port) (laws.control_of_larger_set CommandRegister AllButCi port others) c.accesses c.accesses_are_of_kind;
              } in
              brings_log port old start log new page goes_start.grows w.grows brings (laws.accesses_gain_no_move port ReadLog log new unissued (no_command port.0 (log.port port.0) runs)).0

          -- the engine stopped: the port has to be booted
          stopped : (token : stopped_token.Stopped) → token.port ≡ port → (b : IsSimulated (IsRecoveryAccess port) (λ uses. AllFree uses port.0) r.stops_and_clears.stopped new) → PortStops port log new →
              (StopsThenWaits port (total laws port outstanding queued before after old d r (λ uses. uses) new b) new ⊎ ((page : List ℕ) × BringsLastLogPage port old new page × (NamesNoQueuedCommand page ⊎ NamesSlotNotOutstanding outstanding page))) →
              (SomeMachineAgreesWith (λ uses. uses port.0 0 ≡ Own Identify → ⊥) old → GainsNoMove port.0 Identify old new) →
              Recovers port outstanding queued (record { failed = None; again = outstanding; next = Restart token }) old new
          stopped token names b halts why silent = record {
            handling = record {
              accesses = total laws port outstanding queued before after old d r (λ uses. uses) new b;
              does = record {
                accesses_are_recovery = only laws port outstanding queued before after old d r (λ uses. uses) new b;
                slots_after = performs laws port outstanding queued before after old d r (λ uses. uses) new b;
                tells_engine_outcome = stops laws port outstanding queued before after old d r (λ uses. uses) new b;
              };
              tells = record {
                splits_outstanding = all_go_again outstanding;
                failure_is_backed = tt;
                dead_names_none = λ e. absurd cc;
                queued_restart_names_none = λ at is run. refl;
              };
              leaves = leaves (Restart token) new (goes laws port outstanding queued before after old d r (λ uses. uses) new b) (names, halts.stopped) silent (silent_others laws port outstanding queued before after old d r (λ uses. uses) new b);
            };
            tells = record {
              queued_running_names_one = λ at is run. absurd cc;
              plain_is_named_unless_dead = λ off. absurd (true≢false (sym on ∙ off));
              restart_is_explained = λ at run. inr (on, why);
            };
          }

          pub restarts : (token : stopped_token.Stopped) → token.port ≡ port → ClearsStAlone (log.port port.0) (new.port port.0) → PortStops port log new → ReadsLog port outstanding None start log →
              Recovers port outstanding queued (record { failed = None; again = outstanding; next = Restart token }) old new
          restarts token names has halts (inl (count, a)) =
              let t = told_both laws (WaitsForSlot0InVain port) (Stops port) (WaitsForSlot0InVain port) (λ early late w is. laws.vain_with_later_accesses port early late w) (Recovering PortUnused port) (Controlling CommandRegister AnyUses port)
              (λ uses. set_slot_state uses port.0 0 (Own ReadLog)) (λ uses. uses) (commands_recover laws port) (λ uses free. tt) r.stops_and_clears.stopped log new (b_vain a) halts.is_simulated in
              let o = laws.fragments.own_command_is_over (Recovering PortUnused port) port ReadLog 1 r.stops_and_clears.stopped new (inr (refl, refl)) (λ uses free. free 0)
              (record { is_not_issued = halts.stopped.engine_is_stopped.no_command_is_issued 0; is_not_taken = halts.stopped.engine_is_stopped.no_command_is_taken 0 }) t.is_simulated in
              let b = o.is_simulated in
              stopped token names b halts
              (inl (record {
                early = r.stops_and_clears.stops.is_simulated.is_driven.accesses;
                late = b.is_driven.accesses;
                accesses_are = refl;
                stopped = r.stops_and_clears.stops.accesses_are_such.1;
                waits_in_vain = subst (WaitsForSlot0InVain port) (sym o.accesses_are_such) t.accesses_are_such;
                slot0_issued_count_is_full = ap (λ (n : Notes). n.slot0_issued_count) has.other_notes_are_kept ∙ count;
              })) (vain_silent a.is_simulated halts.is_simulated.is_simulated)
          restarts token names has halts (inr (page, (brings, a), why)) =
              let b = (told_both laws (λ made. Unit {0}) (Stops port) (λ made. Unit {0}) (λ early late w is. tt) (Recovering PortUnused port) (Controlling CommandRegister AnyUses port)
              (λ uses. uses) (λ uses. uses) (commands_recover laws port) (λ uses free. tt) r.stops_and_clears.stopped log new (record { is_simulated = b_log a; accesses_are_such = tt }) halts.is_simulated).is_simulated in
              stopped token names b halts (inr (page, still_last page brings a halts.is_simulated.is_simulated.is_driven, why)) (page_silent a halts.is_simulated.is_simulated)

          -- or it is stuck
          module _ (has : ClearsStAlone (log.port port.0) (new.port port.0)) (fails : FailsToStopPort port log new) where
            failing : (First : List Access → Type 0) (next : SlotStates → SlotStates) → IsSimulatedAlongChangingUses First (IsRecoveryAccess port) (λ uses. AllFree uses port.0) next r.stops_and_clears.stopped log →
                IsSimulatedAlongChangingUses (EngineSticks port) (IsRecoveryAccess port) (λ uses. AllFree uses port.0) next r.stops_and_clears.stopped new
            failing First next t = told_both laws First (FailsToStop port) (EngineSticks port) (λ early late w is. laws.sticks_with_earlier_accesses early late port (laws.failing_sticks port late is)) (Recovering PortUnused port)
                (Controlling CommandRegister AnyUses port) next (λ uses. uses) (commands_recover laws port) (λ uses free. tt) r.stops_and_clears.stopped log new t fails.is_simulated

            stuck : (next : SlotStates → SlotStates) (t : IsSimulatedAlongChangingUses (EngineSticks port) (IsRecoveryAccess port) (λ uses. AllFree uses port.0) next r.stops_and_clears.stopped new) →
                IsSimulatedWithSlotsSurelyParkedUnlessDead port.0 Dead (total laws port outstanding queued before after old d r next new t.is_simulated) old new →
                (SomeMachineAgreesWith (λ uses. uses port.0 0 ≡ Own Identify → ⊥) old → GainsNoMove port.0 Identify old new) →
                Recovers port outstanding queued (record { failed = None; again = outstanding; next = Dead }) old new
            stuck next t slots silent = record {
              handling = record {
                accesses = total laws port outstanding queued before after old d r next new t.is_simulated;
                does = record {
                  accesses_are_recovery = only laws port outstanding queued before after old d r next new t.is_simulated;
                  slots_after = slots;
                  tells_engine_outcome = laws.sticks_with_earlier_accesses r.stops_and_clears.stops.is_simulated.is_driven.accesses t.is_simulated.is_driven.accesses port t.accesses_are_such;
                };
                tells = record {
                  splits_outstanding = all_go_again outstanding;
                  failure_is_backed = tt;
                  dead_names_none = λ e. refl;
                  queued_restart_names_none = λ at is run. absurd cc;
                };
                leaves = leaves Dead new (goes laws port outstanding queued before after old d r next new t.is_simulated) (has.st_is_clear, fails.stuck_is_backed) silent (silent_others laws port outstanding queued before after old d r next new t.is_simulated);
              };
              tells = record {
                queued_running_names_one = λ at is run. absurd cc;
                plain_is_named_unless_dead = λ off set alive. absurd (alive refl);
                restart_is_explained = λ at run. absurd cc;
              };
            }

            pub gets_stuck : ReadsLog port outstanding None start log → Recovers port outstanding queued (record { failed = None; again = outstanding; next = Dead }) old new
            gets_stuck (inl (count, a)) =
                let t = failing (WaitsForSlot0InVain port) (λ uses. set_slot_state uses port.0 0 (Own ReadLog)) (b_vain a) in
                stuck (λ uses. set_slot_state uses port.0 0 (Own ReadLog)) t
                (inr (inr (performs laws port outstanding queued before after old d r (λ uses. set_slot_state uses port.0 0 (Own ReadLog)) new t.is_simulated))) (vain_silent a.is_simulated fails.is_simulated.is_simulated)
            gets_stuck (inr (page, (brings, a), why)) =
                let t = failing (λ made. Unit {0}) (λ uses. uses) (record { is_simulated = b_log a; accesses_are_such = tt }) in
                stuck (λ uses. uses) t (inr (inl (performs laws port outstanding queued before after old d r (λ uses. uses) new t.is_simulated))) (page_silent a fails.is_simulated.is_simulated)
