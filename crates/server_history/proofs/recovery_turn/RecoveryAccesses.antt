-- The accesses of a port's turn that mends it: one by one, of what kind they are, and what they tell of the port's engines.
use Rattle.std.proofs.Common.{ℕ, ◌≡◌, ◌≢◌, ◌<◌, ◌++◌, List, [], None, refl, sym, ◌∙◌, subst, inl, inr, arith, ⊎_elim, ◌⊎◌}
use Rattle.std.specs.List.{All}
use Rattle.std.proofs.lemmas.Bool.{cases_eq}
use Rattle.std.proofs.lemmas.List.Elements.{All-append, All-nil, All-weaker}
use Rattle.ata_types.specs.declared.Port.{Port}
use Rattle.ata_types.specs.declared.PortState.{PortState as Shown}
use Rattle.ata_types.specs.declared.PortState.TheVariants as shown
use Rattle.ata_types.specs.declared.PortState.TheVariants.{Dead as DeadState, Ready as ReadyState}
use Rattle.ata_types.specs.declared.request.RequestId.{RequestId}
use Rattle.ata_types.specs.declared.limits.TheConstants.{MOST_READINGS}
use Rattle.hba_regs.specs.declared.reg.PortReg.TheVariants.{Ci, Sact, Sctl}
use Rattle.hba_regs.specs.declared.reg.Reg.TheVariants.{Px}
use Rattle.adapter.specs.Access.{Access}
use Rattle.adapter.specs.Access.Access.{Loading, Reading, Storing, Writing}
use Rattle.adapter.specs.Device.{Device}
use Rattle.adapter.specs.declared.command.Operation.{Operation}
use Rattle.adapter.specs.declared.command.Operation.TheVariants.{Identify}
use Rattle.refinement.specs.Fragments.{IsDrivenBy, IsSimulated, IsSimulatedChangingUses, AccessesNoOtherPort, IsSimulatedAlongChangingUses, GainsNoMove, driver_state_of}
use Rattle.refinement.specs.Driver.{AllFree, DriverRelation}
use Rattle.refinement.specs.PreservedParts.{DoesNotWrite}
use Rattle.refinement.specs.Slots.{Own, SlotStates, client_operation_of, set_slot_state}
use Rattle.server_history.proofs.state.FollowedAccesses.{followed_adds, followed_silent}
use Rattle.block_machine.specs.Histories.{IsReachable}
use Rattle.block_machine.specs.Expected.{after}
use Rattle.block_machine.specs.State.{Machine}
use Rattle.disk_page.specs.PageRequests.{IsPxciOrSlot0PageMemoryAccess}
use Rattle.driver_history.specs.AccessTrace.{StaysInDriverFrames, DoesNotWriteCmd, LastSctlWritesResetLink}
use Rattle.error_recovery.specs.Recovery.{IsRecoveryAccess}
use Rattle.error_recovery.specs.declared.Next.{Next}
use Rattle.error_recovery.specs.declared.Next.TheVariants as next
use Rattle.host_boot.specs.Reboots.{RebootsPort, EndsReadyOrUnready, IsCapPiOrBootAccess}
use Rattle.identify.specs.Wanted.{serial_of}
use Rattle.port_boot.specs.Outcomes.{EndsUnready}
use Rattle.host_boot.specs.TakeOver.{ReadsCapOrPi}
use Rattle.host_boot.specs.declared.Booted.{Booted}
use Rattle.host_boot.specs.declared.ProbeResult.{ProbeResult}
use Rattle.host_boot.specs.declared.ProbeResult.TheVariants.{Ready, Unready, Unserved}
use Rattle.identify.specs.declared.DiskInfo.{DiskInfo}
use Rattle.identify.specs.declared.wanted.Wanted.{Wanted}
use Rattle.port_boot.specs.States.{IsSimulatedBoot, IsBootAccess}
use Rattle.port_control.specs.Engines.{EngineSticks}
use Rattle.port_control.specs.declared.Stopped.{Stopped}
use Rattle.server_history.specs.Prerequisites.{PrerequisiteLaws}
use Rattle.server_history.specs.ErrorHandling.{IsFoundAfterError}
use Rattle.server_history.proofs.state.TurnAccesses.{table_own}
use Rattle.server_history.proofs.recovery_turn.LinkResets.{ResetsBy, early_resets, late_resets, ready_resets, resets_since}
use Rattle.server_history.proofs.state.SilentOperations.{silent_more, silent_none}
use Rattle.port_control.specs.declared.events.PortError.{PortError}
use Rattle.port_control.specs.declared.events.PortError.TheVariants.{LinkChanged}
use Rattle.server_history.proofs.recovery_turn.BootOrAbsence.{IsFoundAbsent, boots_or_absent}

-- ---- kinds of accesses

-- it is of this port, and what it loads or stores is the driver's own
abbrev pub IsPart : Port → Access → Type 0
IsPart port access = StaysInDriverFrames access × AccessesNoOtherPort port access

-- and it doesn't write PxCMD
abbrev pub IsEarlyPart : Port → Access → Type 0
IsEarlyPart port access = IsPart port access × DoesNotWriteCmd port access

module _ (laws : PrerequisiteLaws) (port : Port) (low : port.0 < 4) where
  pub recovering_part : (access : Access) → IsRecoveryAccess port access → IsPart port access
  recovering_part access here = (own access here, laws.recovery_access_is_of_port port access here)
    where
      own : (access : Access) → IsRecoveryAccess port access → StaysInDriverFrames access
      own (Reading r v) is = tt
      own (Writing r v) is = tt
      own (Loading at bytes) is = laws.recovery_loads_drivers_own port at bytes low is
      own (Storing at bytes) is = laws.recovery_stores_drivers_own port at bytes low is

  asking_own : (access : Access) → IsPxciOrSlot0PageMemoryAccess port access → StaysInDriverFrames access
  asking_own (Reading r v) is = tt
  asking_own (Writing r v) is = tt
  asking_own (Loading at bytes) is = let here = is.0 in let size = is.1 in omega (arith, low, here, size)
  asking_own (Storing at bytes) is = table_own port.0 0 at bytes low (omega arith) is

  booting_own : (access : Access) → IsBootAccess port access → StaysInDriverFrames access
  booting_own (Reading r v) is = tt
  booting_own (Writing r v) is = tt
  booting_own (Loading at bytes) (inl is) = absurd is
  booting_own (Loading at bytes) (inr is) = asking_own (Loading at bytes) is
  booting_own (Storing at bytes) (inl is) = absurd is
  booting_own (Storing at bytes) (inr is) = asking_own (Storing at bytes) is

  pub booting_part : (access : Access) → IsBootAccess port access → IsPart port access
  booting_part access is = (booting_own access is, laws.boot_access_is_of_port port access is)

pub survey_part : (port : Port) (access : Access) → ReadsCapOrPi access → IsPart port access
survey_part port (Reading (Px q r) v) is = absurd is
survey_part port (Reading r v) is = (tt, tt)
survey_part port (Writing r v) is = absurd is
survey_part port (Loading at bytes) is = absurd is
survey_part port (Storing at bytes) is = absurd is

-- what comes before a boot, and the boot
pub start_part : PrerequisiteLaws → (port : Port) → port.0 < 4 → (access : Access) → IsCapPiOrBootAccess port access → IsPart port access
start_part laws port low access is = ⊎_elim (survey_part port access) (booting_part laws port low access) is

-- ---- a port that is booted anew, where it has to be

-- Some machine agrees with a driver that uses no slot of the port.
pub record IsGivenUp (port : Port) (d : Device) : Type 0 where
  pub uses : SlotStates
  pub parked : ℕ → List RequestId
  pub machine : Machine
  pub free : AllFree uses port.0
  pub reached : IsReachable machine
  pub driver_relation : DriverRelation machine (driver_state_of uses parked d)

-- The accesses between recovery and the issues, and what they tell of a port that is dead after its boot: 64 readings in a row showed an engine that is
-- stuck. Another boot has reset the link. Another port is sent no page by a command that its slot 0 hadn't.
pub record AfterList (port : Port) (port_error : PortError) (then : Next) (found : ProbeResult) (old new : Device) : Type 0 where
  pub driven : IsDrivenBy (IsPart port) old new
  pub sticks : found ≡ Unready DeadState → then ≢ next.Dead → EngineSticks port driven.accesses
  pub stuck : found ≡ Unready DeadState → then ≢ next.Dead → (new.port port.0).notes.engine_wait_count ≡ MOST_READINGS
  pub resets : (token : Stopped) → then ≡ next.Restart token → found ≢ Unready DeadState → ((port_error ≡ LinkChanged) × (found ≡ Unready shown.Absent)) ⊎ LastSctlWritesResetLink port driven.accesses
  pub unreset : ((token : Stopped) → then ≢ next.Restart token) → All (DoesNotWrite (Px port Sctl)) driven.accesses
  pub silent : (q : Port) (o : Operation) → q.0 ≢ port.0 → client_operation_of o ≡ None → ((token : Stopped) → then ≡ next.Restart token → (g : IsGivenUp port old) × (g.uses q.0 0 ≡ Own o → ⊥)) → GainsNoMove q.0 o old new

module _ (laws : PrerequisiteLaws) (port : Port) (low : port.0 < 4) (wanted : Wanted) (port_error : PortError) where
  module _ (token : Stopped) (old asked new : Device) (asks : IsSimulated (IsCapPiOrBootAccess port) (λ uses. AllFree uses port.0) old asked) (then : SlotStates → SlotStates) (boots : IsSimulatedChangingUses (IsBootAccess port) (λ uses. AllFree uses port.0) then asked new) where
    boot_silent : (q : Port) (o : Operation) → q.0 ≢ port.0 → client_operation_of o ≡ None → (g : IsGivenUp port old) → (g.uses q.0 0 ≡ Own o → ⊥) → GainsNoMove q.0 o old new
    boot_silent q o other own g none =
        let x = (followed_adds laws asks g.uses g.parked g.free).simulates g.machine g.reached g.driver_relation in
        silent_more q.0 o old asked new
        (followed_silent laws asks g.uses g.parked g.machine g.free g.reached g.driver_relation q o own (λ access is. laws.one_port_spares_registers port q Ci other access (start_part laws port low access is).1) (λ access is. laws.one_port_spares_registers port q Sact other access (start_part laws port low access is).1) none)
        (followed_silent laws boots g.uses g.parked (after g.machine x.0) g.free (laws.steps_and_accesses.reachable_stays_reachable g.machine x.0 g.reached x.1) x.2 q o own
        (λ access is. laws.one_port_spares_registers port q Ci other access (laws.boot_access_is_of_port port access is)) (λ access is. laws.one_port_spares_registers port q Sact other access (laws.boot_access_is_of_port port access is)) none)

    boot_list : (found : ProbeResult) (by : IsDrivenBy (IsBootAccess port) asked new) → (found ≡ Unready DeadState → EngineSticks port by.accesses) → (found ≡ Unready DeadState → (new.port port.0).notes.engine_wait_count ≡ MOST_READINGS)
        → (found ≢ Unready DeadState → LastSctlWritesResetLink port by.accesses) → AfterList port port_error (next.Restart token) found old new
    boot_list found by sticks stuck resets = record {
      driven = record {
        accesses = asks.is_driven.accesses ++ by.accesses;
        all_are_done = laws.steps_and_accesses.does_append asks.is_driven.accesses by.accesses old asked new asks.is_driven.all_are_done by.all_are_done;
        accesses_are_of_kind = All-append (IsPart port) asks.is_driven.accesses by.accesses (All-weaker (IsCapPiOrBootAccess port) (IsPart port) (start_part laws port low) asks.is_driven.accesses asks.is_driven.accesses_are_of_kind)
            (All-weaker (IsBootAccess port) (IsPart port) (booting_part laws port low) by.accesses by.accesses_are_of_kind);
      };
      sticks = λ dead _. laws.sticking_holds_with_earlier asks.is_driven.accesses by.accesses port (sticks dead);
      stuck = λ dead _. stuck dead;
      resets = λ _ _ lives. inr (resets_since port asks.is_driven.accesses by.accesses (resets lives));
      unreset = λ never. absurd (never token refl);
      silent = λ q o other own given. let g = given token refl in boot_silent q o other own g.0 g.1;
    }

    -- one that isn't dead has its link reset
    lives_list : (found : ProbeResult) → found ≢ Unready DeadState → ResetsBy port asked new → AfterList port port_error (next.Restart token) found old new
    lives_list found lives by = boot_list found by.driven (λ dead. absurd (lives dead)) (λ dead. absurd (lives dead)) (λ _. by.resets)

  -- no device showed
  absent_list : (token : Stopped) (found : ProbeResult) (old new : Device) → IsFoundAbsent wanted port port_error found old new → AfterList port port_error (next.Restart token) found old new
  absent_list token found old new absent = record {
    driven = record { accesses = made.accesses; all_are_done = made.all_are_done; accesses_are_of_kind = All-weaker (IsCapPiOrBootAccess port) (IsPart port) (start_part laws port low) made.accesses made.accesses_are_of_kind };
    sticks = λ dead _. absurd (lives dead);
    stuck = λ dead _. absurd (lives dead);
    resets = λ _ _ _. inl (absent.lost, absent.is);
    unreset = λ never. absurd (never token refl);
    silent = λ q o other own given.
        let g = given token refl in
        followed_silent laws absent.starts g.0.uses g.0.parked g.0.machine g.0.free g.0.reached g.0.driver_relation q o own
        (λ access is. laws.one_port_spares_registers port q Ci other access (start_part laws port low access is).1) (λ access is. laws.one_port_spares_registers port q Sact other access (start_part laws port low access is).1) g.1;
  }
    where
      made : IsDrivenBy (IsCapPiOrBootAccess port) old new
      made = absent.starts.is_driven

      lives : found ≡ Unready DeadState → ⊥
      lives dead = let z : Unready shown.Absent ≡ Unready DeadState = sym absent.is ∙ dead in cc

  booted_list : (token : Stopped) (booted : Booted) (old new : Device) → RebootsPort wanted port booted old new → AfterList port port_error (next.Restart token) booted.found old new
  booted_list token booted old new b = by booted.found b.boots
    where
      lives : (state : Shown) → state ≢ DeadState → Unready state ≡ Unready DeadState → ⊥
      lives state other is = other (let z : Unready state ≡ Unready DeadState = is in cc)

      unready : (state : Shown) → EndsUnready (serial_of wanted) port state b.device_after_survey new → AfterList port port_error (next.Restart token) (Unready state) old new
      unready shown.Dead x = ⊎_elim
          (λ (told : IsSimulatedBoot (EngineSticks port) port b.device_after_survey new). boot_list token old b.device_after_survey new b.surveys (λ uses. uses) told.is_simulated (Unready DeadState) told.is_simulated.is_driven (λ _. told.accesses_are_such) (λ _. x.state_is_backed.1) (λ lives. absurd (lives refl)))
          (λ (told : IsSimulatedAlongChangingUses (EngineSticks port) (IsBootAccess port) (λ uses. AllFree uses port.0) (λ uses. set_slot_state uses port.0 0 (Own Identify)) b.device_after_survey new).
          boot_list token old b.device_after_survey new b.surveys (λ uses. set_slot_state uses port.0 0 (Own Identify)) told.is_simulated (Unready DeadState) told.is_simulated.is_driven (λ _. told.accesses_are_such) (λ _. x.state_is_backed.1) (λ lives. absurd (lives refl)))
          x.boots
      unready shown.Absent x = lives_list token old b.device_after_survey new b.surveys (λ uses. uses) x.boots.is_simulated (Unready shown.Absent) (lives shown.Absent (λ e. let z : shown.Absent ≡ DeadState = e in cc)) (early_resets laws port shown.Absent b.device_after_survey new (x.unstarted_state_ends_before_start tt))
      unready shown.Foreign x = lives_list token old b.device_after_survey new b.surveys (λ uses. uses) x.boots.is_simulated (Unready shown.Foreign) (lives shown.Foreign (λ e. let z : shown.Foreign ≡ DeadState = e in cc)) (late_resets laws port b.device_after_survey new (x.stopped_state_ends_after_start tt))
      unready (shown.Unfit n) x =
          lives_list token old b.device_after_survey new b.surveys (λ uses. uses) x.boots.is_simulated (Unready (shown.Unfit n)) (lives (shown.Unfit n) (λ e. let z : shown.Unfit n ≡ DeadState = e in cc))
          (⊎_elim
          (λ (seven : n ≡ 7). early_resets laws port (shown.Unfit n) b.device_after_survey new (x.unstarted_state_ends_before_start (inl seven)))
          (λ (not_seven : n ≢ 7). ⊎_elim
          (λ (eight : n ≡ 8). early_resets laws port (shown.Unfit n) b.device_after_survey new (x.unstarted_state_ends_before_start (inr eight)))
          (λ (not_eight : n ≢ 8). late_resets laws port b.device_after_survey new (x.stopped_state_ends_after_start (not_seven, not_eight)))
          (cases_eq n 8))
          (cases_eq n 7))
      unready shown.Ready x = absurd x.state_is_backed

      by : (found : ProbeResult) → EndsReadyOrUnready wanted port found b.device_after_survey new → AfterList port port_error (next.Restart token) found old new
      by Unserved x = absurd x
      by (Ready info) x =
          let no : Ready info ≡ Unready DeadState → ⊥ = λ e. let z : Ready info ≡ Unready DeadState = e in cc in
          lives_list token old b.device_after_survey new b.surveys (λ uses. uses) x.boots.is_simulated (Ready info) no (ready_resets laws port b.device_after_survey new x.brings_ready)
      by (Unready state) x = unready state x

  pub after_list : (was : DiskInfo) (then : Next) (old new : Device) (found : ProbeResult) → IsFoundAfterError wanted port port_error was then old new found → AfterList port port_error then found old new
  after_list was (next.Running token) old new found is =
      let none : found ≡ Unready DeadState → ⊥ = λ dead. let z : Ready was ≡ Unready DeadState = sym is.0 ∙ dead in cc in
      subst (λ (d : Device). AfterList port port_error (next.Running token) found old d) (sym is.1) (record {
        driven = record { accesses = []; all_are_done = refl; accesses_are_of_kind = All-nil (IsPart port) };
        sticks = λ dead _. absurd (none dead);
        stuck = λ dead _. absurd (none dead);
        resets = λ other is _. absurd (let z : next.Running token ≡ next.Restart other = is in cc);
        unreset = λ _. All-nil (DoesNotWrite (Px port Sctl));
        silent = λ q o other own given. silent_none q.0 o old;
      })
  after_list was (next.Restart token) old new found is = subst (λ (f : ProbeResult). AfterList port port_error (next.Restart token) f old new) is.1 (⊎_elim
      (λ (b : RebootsPort wanted port is.0 old new). booted_list token is.0 old new b)
      (λ (absent : IsFoundAbsent wanted port port_error is.0.found old new). absent_list token is.0.found old new absent)
      (boots_or_absent port_error wanted port is.0 old new is.2))
  after_list was next.Dead old new found is = subst (λ (d : Device). AfterList port port_error next.Dead found old d) (sym is.1) (record {
    driven = record { accesses = []; all_are_done = refl; accesses_are_of_kind = All-nil (IsPart port) };
    sticks = λ _ lives. absurd (lives refl);
    stuck = λ _ lives. absurd (lives refl);
    resets = λ token is _. absurd (let z : next.Dead ≡ next.Restart token = is in cc);
    unreset = λ _. All-nil (DoesNotWrite (Px port Sctl));
    silent = λ q o other own given. silent_none q.0 o old;
  })
