-- Port after port is booted, and the machine follows.
use Rattle.std.proofs.Common.{ℕ, true, ◌≡◌, ◌≢◌, ◌<◌, ◌≤◌, ◌+◌, ◌/◌, ◌%◌, ◌++◌, List, length, inl, inr, refl, sym, ◌∙◌, ap, subst, arith, le_trans}
use Rattle.std.specs.Prelude.{slice_set}
use Rattle.std.proofs.lemmas.Bool.{cases_eq}
use Rattle.std.specs.List.{All}
use Rattle.std.proofs.lemmas.List.Elements.{All-weaker}
use Rattle.std.proofs.lemmas.List.{length-set, length-append, get_or-set_same, get_or-set_other}
use Rattle.ata_types.specs.declared.Port.{Port}
use Rattle.ata_types.specs.declared.PortState.{PortState}
use Rattle.ata_types.specs.declared.PortState.TheVariants.{Absent, Ready as ReadyState, Foreign, Unfit, Dead}
use Rattle.hba_regs.specs.declared.reg.PortReg.TheVariants.{Ci, Cmd, Sact}
use Rattle.hba_regs.specs.declared.reg.Reg.TheVariants.{Bohc, Cap, Cap2, Ghc, Is, Pi, Px, Vs}
use Rattle.hba_regs.specs.Bits.{bit}
use Rattle.hba_regs.specs.declared.reg.PortReg.{PortReg}
use Rattle.adapter.specs.Access.{Access}
use Rattle.adapter.specs.Access.Access.{Reading, Writing, Loading, Storing}
use Rattle.adapter.specs.Device.{Device}
use Rattle.adapter.specs.Idle.{IsIdle, IsIdlePort}
use Rattle.adapter.specs.Rules.{IsOn}
use Rattle.adapter.specs.declared.command.Operation.{Operation}
use Rattle.adapter.specs.declared.command.Operation.TheVariants.{Identify}
use Rattle.refinement.specs.Relation.{port_at}
use Rattle.refinement.specs.Fragments.{AnySlotStates, SomeMachineAgrees, IsDrivenBy, IsSimulated, IsSimulatedChangingUses, AccessesNoOtherPort, IsSimulatedAlongChangingUses, SameSlotStates, OnlyDeviceChangesPort, NoneWrites, GainsNoMove, AreByDeviceAndKeepUnwrittenSlots}
use Rattle.refinement.specs.Driver.{AllFree}
use Rattle.refinement.specs.Halting.{HaltFitsTakenCommandsIfSt}
use Rattle.refinement.specs.PreservedParts.{SameAdapter, DoesNotWrite}
use Rattle.refinement.specs.Slots.{Free, Own, SlotStates, set_slot_state}
use Rattle.identify.specs.declared.wanted.Wanted.{Wanted}
use Rattle.identify.specs.declared.wanted.Wanted.TheVariants.{Nothing}
use Rattle.port_control.specs.Engines.{StopsEachEngine}
use Rattle.port_boot.specs.States.{IsSimulatedBoot, IsSimulatedBootTo, IsBootAccess}
use Rattle.host_boot.specs.TakeOver.{IsSimulatedBootOrNothing, SwitchesOnBootsAndEnablesInterrupts, ReadyPortHaltFitsTakenCommands, IsUnusedOrIdentifyOfDeadPort, ReadsCapOrPiOrSetsAe, IsTakeOverAccess, OnlyDeviceChangesPorts, BacksProbeResult, TakesOver, ShowsEnginesStoppedOrStuck, WroteSctlUnlessUnservedOrDead, probe_result_of, unused_slots, wanted_of}
use Rattle.host_boot.specs.declared.Host.{Host}
use Rattle.host_boot.specs.declared.ProbeResult.{ProbeResult}
use Rattle.host_boot.specs.declared.ProbeResult.TheVariants.{Unserved, Ready, Unready}
use Rattle.host_boot.proofs.Stopping.{tells_then, tells_since}
use Rattle.host_boot.proofs.Leaving.{idle_on, is_served, stands_on, reset_on}
use Rattle.refinement.specs.Acts.{ActsReach, DriverSlots, driver_state_of_slots}
use Rattle.host_boot.specs.Laws.{Laws, SlotCondition, slot_uses_meeting}
use Rattle.refinement.specs.Tape.{TapeTells}
use Rattle.host_boot.proofs.Stretching.{driven_as, same_over, tape_over, told_both, told_more, told_wider}
use Rattle.host_boot.specs.Laws.SlotCondition.{AnyUses, PortUnused, ExactUses}
use Rattle.host_boot.specs.Laws.AccessPurpose.{Booting, AccessingHostRegisters, TakingOver}

-- the uses are these at last
abbrev GoesTo : (Access → Type 0) → SlotStates → SlotStates → Device → Device → Type 0
GoesTo May first uses old new = IsSimulatedChangingUses May (SameSlotStates first) (λ _. uses) old new

-- what they tell of the first ports
abbrev TellsFirst : List ProbeResult → ℕ → List Access → Type 0
TellsFirst ports n accesses = (port : ℕ) → port < n → ShowsEnginesStoppedOrStuck (port_at port) (probe_result_of ports port) accesses

-- So many ports were booted, as they were found, and the others are idle still.
pub record IsUnderway (wanted : List Wanted) (ports : List ProbeResult) (n : ℕ) (start d : Device) : Type 0 where
  pub on : IsOn d
  pub same : SameAdapter start d
  pub long : length ports ≡ 4
  pub uses : SlotStates
  pub left : (port slot : ℕ) → IsUnusedOrIdentifyOfDeadPort ports uses port slot
  pub free : (port slot : ℕ) → n ≤ port → uses port slot ≡ Free
  pub told : IsSimulatedAlongChangingUses (TellsFirst ports n) (IsTakeOverAccess wanted) (SameSlotStates unused_slots) (λ _. uses) start d
  pub agreed : SomeMachineAgrees uses d
  pub stands : (port : ℕ) → port < n → BacksProbeResult (wanted_of wanted port) (probe_result_of ports port) port d
  pub reset : (port : ℕ) → port < n → WroteSctlUnlessUnservedOrDead (probe_result_of ports port) port (length start.tape) d
  pub halts : (port : ℕ) → port < n → ReadyPortHaltFitsTakenCommands (probe_result_of ports port) port d
  pub idle : (port : ℕ) → n ≤ port → IsIdlePort (d.port port)

host_spares : (q : Port) (r : PortReg) → NoneWrites ReadsCapOrPiOrSetsAe (Px q r)
host_spares q r (Reading x v) is = tt
host_spares q r (Loading driver_state_of_slots bytes) is = absurd is
host_spares q r (Storing driver_state_of_slots bytes) is = absurd is
host_spares q r (Writing Ghc v) is = λ (e : Ghc ≡ Px q r). absurd cc
host_spares q r (Writing Cap v) is = absurd is
host_spares q r (Writing Is v) is = absurd is
host_spares q r (Writing Pi v) is = absurd is
host_spares q r (Writing Vs v) is = absurd is
host_spares q r (Writing Cap2 v) is = absurd is
host_spares q r (Writing Bohc v) is = absurd is
host_spares q r (Writing (Px p x) v) is = absurd is

module _ (laws : Laws) where
  -- what halts a port is of a taken command still, over what was followed without a write of its PxCMD, where it was found ready
  still_halts : (May : Access → Type 0) (Fits : SlotStates → Type 0) (next : SlotStates → SlotStates) (uses : SlotStates) (q : ℕ) (old new : Device) → NoneWrites May (Px (port_at q) Cmd) → Fits uses
      → IsSimulatedChangingUses May Fits next old new → SomeMachineAgrees uses old → (wanted : Wanted) (found : ProbeResult) → BacksProbeResult wanted found q new → ReadyPortHaltFitsTakenCommands found q old → ReadyPortHaltFitsTakenCommands found q new
  still_halts May Fits next uses q old new spares fits f a wanted found stands halts info is =
      let slots : DriverSlots = record { slot_states = uses; awaiting_disposition = a.parked } in
      let c = f.acts_reach slots a.machine a.reached a.driver_relation fits in
      let then : HaltFitsTakenCommandsIfSt (new.port q) =
      laws.halt_of_taken_stays_over_acts (port_at q) c.acts (driver_state_of_slots slots old) (driver_state_of_slots (record slots { slot_states = next uses }) new) a.machine a.reached a.driver_relation c.acts_are_done
      (subst (All (DoesNotWrite (Px (port_at q) Cmd))) (sym c.accesses_match_acts) (All-weaker May (DoesNotWrite (Px (port_at q) Cmd)) spares f.is_driven.accesses f.is_driven.accesses_are_of_kind)) (λ _. halts info is) in
      then (subst (λ (x : ProbeResult). BacksProbeResult wanted x q new) is stands).1.runs.st_is_set

  module _ (wanted : List Wanted) (first : SlotStates) where
    -- nothing is put to use
    pub goes_on : (old new : Device) → IsSimulated (IsTakeOverAccess wanted) AnySlotStates old new → GoesTo (IsTakeOverAccess wanted) first first old new
    goes_on old new a = record {
      is_driven = a.is_driven;
      acts_reach = λ s m reached x is.
          subst (λ (u : SlotStates). ActsReach a.is_driven.accesses (driver_state_of_slots s old) m (driver_state_of_slots (record s { slot_states = u }) new) (AreByDeviceAndKeepUnwrittenSlots (IsTakeOverAccess wanted) s.slot_states)) is (a.acts_reach s m reached x tt);
    }

    -- and then others, with what is told of both
    pub then_told : (Before Here TapeTells : List Access → Type 0) → ((early late : List Access) → Before early → Here late → TapeTells (early ++ late)) → (fitting : SlotCondition) (next : SlotStates → SlotStates) (uses : SlotStates)
        (old mid new : Device) → slot_uses_meeting fitting uses → IsSimulatedAlongChangingUses Before (IsTakeOverAccess wanted) (SameSlotStates first) (λ _. uses) old mid → IsSimulatedAlongChangingUses Here (IsTakeOverAccess wanted) (slot_uses_meeting fitting) next mid new →
        IsSimulatedAlongChangingUses TapeTells (IsTakeOverAccess wanted) (SameSlotStates first) (λ _. next uses) old new
    then_told Before Here TapeTells join fitting next uses old mid new fits a b =
        told_both laws Before Here TapeTells join (TakingOver wanted (ExactUses first)) (TakingOver wanted fitting) (λ _. uses) next (λ access may. may) (λ were is. fits) old mid new a b

  module _ (wanted : List Wanted) (ports : List ProbeResult) (port : Port) (below : port.0 < 4) (start old new : Device) (found : ProbeResult)
      (u : IsUnderway wanted ports port.0 start old) (on : IsOn new) (stands : BacksProbeResult (wanted_of wanted port.0) found port.0 new)
      (reset : WroteSctlUnlessUnservedOrDead found port.0 (length old.tape) new) (halts : ReadyPortHaltFitsTakenCommands found port.0 new) where
    abbrev Later : Type 0
    Later = IsUnderway wanted (slice_set ports port.0 found) (port.0 + 1) start new

    here_is : probe_result_of (slice_set ports port.0 found) port.0 ≡ found
    here_is = get_or-set_same ports port.0 found Unserved (let l = u.long in omega (arith, l, below))

    other_is : (q : ℕ) → q ≢ port.0 → probe_result_of (slice_set ports port.0 found) q ≡ probe_result_of ports q
    other_is q other = get_or-set_other ports port.0 q found Unserved other

    -- what was used before it, is
    was_left : (q slot : ℕ) → q ≢ port.0 → IsUnusedOrIdentifyOfDeadPort (slice_set ports port.0 found) u.uses q slot
    was_left q slot other = elim (u.left q slot) [
      | inl free ↦ inl free
      | inr (head, own, dead) ↦ inr (head, own, other_is q other ∙ dead)
    ]

    -- a disk is wanted there
    wants : found ≢ Unserved → wanted_of wanted port.0 ≢ Nothing
    wants other = (is_served (wanted_of wanted port.0) port.0 new found other stands).0

    module _ (driven : IsDrivenBy (IsBootAccess port) old new)
        (quiet : (q : Port) → q.0 ≢ port.0 → (u.uses q.0 0 ≡ Own Identify → ⊥) → GainsNoMove q.0 Identify old new) where
      alone : (q : ℕ) → q ≢ port.0 → OnlyDeviceChangesPort (old.port q) (new.port q)
      alone q other = laws.other_ports_are_left port q old new other u.on (driven_as (IsBootAccess port) (AccessesNoOtherPort port) old new (laws.boot_access_is_of_port port) driven)

      pub later_same : SameAdapter start new
      later_same = laws.same_adapter_is_transitive start old new u.same (same_over laws (IsBootAccess port) old new driven)

      at_other : (q : ℕ) → q ≢ port.0 → q < port.0 → BacksProbeResult (wanted_of wanted q) (probe_result_of (slice_set ports port.0 found) q) q new
      at_other q other less =
          let P : ProbeResult → Type 0 = λ f. BacksProbeResult (wanted_of wanted q) f q new in
          subst P (sym (other_is q other))
          (stands_on laws.probe_results q old new (alone q other) (same_over laws (IsBootAccess port) old new driven) (wanted_of wanted q) (probe_result_of ports q)
          (λ alive. quiet (port_at q) other (λ own. elim (u.left q 0) [
            | inl free ↦ absurd (let e : Own Identify ≡ Free = sym own ∙ free in cc)
            | inr (head, is, dead) ↦ alive dead
          ]))
          (u.stands q less))

      pub later_stands : (q : ℕ) → q < port.0 + 1 → BacksProbeResult (wanted_of wanted q) (probe_result_of (slice_set ports port.0 found) q) q new
      later_stands q less = elim (cases_eq q port.0) [
        | inl e ↦
            let P : ℕ → Type 0 = λ k. BacksProbeResult (wanted_of wanted k) (probe_result_of (slice_set ports port.0 found) k) k new in
            let Q : ProbeResult → Type 0 = λ f. BacksProbeResult (wanted_of wanted port.0) f port.0 new in
            subst P (sym e) (subst Q (sym here_is) stands)
        | inr other ↦ at_other q other (omega (arith, less, other))
      ]

      -- the tape only grew before it
      longer : length start.tape ≤ length old.tape
      longer =
          let g = tape_over laws (IsTakeOverAccess wanted) start old u.told.is_simulated.is_driven in
          let n : length old.tape ≡ length start.tape + length g.0 = ap (λ es. length es) g.1 ∙ length-append start.tape g.0 in
          omega (arith, n)

      since_start : (f : ProbeResult) → WroteSctlUnlessUnservedOrDead f port.0 (length old.tape) new → WroteSctlUnlessUnservedOrDead f port.0 (length start.tape) new
      since_start Unserved is = is
      since_start (Ready info) is = le_trans longer is
      since_start (Unready Absent) is = le_trans longer is
      since_start (Unready ReadyState) is = le_trans longer is
      since_start (Unready Foreign) is = le_trans longer is
      since_start (Unready (Unfit n)) is = le_trans longer is
      since_start (Unready Dead) is = is

      pub later_reset : (q : ℕ) → q < port.0 + 1 → WroteSctlUnlessUnservedOrDead (probe_result_of (slice_set ports port.0 found) q) q (length start.tape) new
      later_reset q less = elim (cases_eq q port.0) [
        | inl e ↦
            let P : ℕ → Type 0 = λ k. WroteSctlUnlessUnservedOrDead (probe_result_of (slice_set ports port.0 found) k) k (length start.tape) new in
            let Q : ProbeResult → Type 0 = λ f. WroteSctlUnlessUnservedOrDead f port.0 (length start.tape) new in
            subst P (sym e) (subst Q (sym here_is) (since_start found reset))
        | inr other ↦
            let Q : ProbeResult → Type 0 = λ f. WroteSctlUnlessUnservedOrDead f q (length start.tape) new in
            subst Q (sym (other_is q other)) (reset_on q old new (alone q other) (probe_result_of ports q) (length start.tape) (u.reset q (omega (arith, less, other))))
      ]

      pub later_idle : (q : ℕ) → port.0 + 1 ≤ q → IsIdlePort (new.port q)
      later_idle q more =
          let other : q ≢ port.0 = λ (e : q ≡ port.0). absurd (omega (arith, e, more)) in
          idle_on (old.port q) (new.port q) (alone q other) (u.idle q (omega (arith, more)))

      taking : found ≢ Unserved → (access : Access) → IsBootAccess port access → IsTakeOverAccess wanted access
      taking served access is = inr (port, wants served, is)

    -- ---- what is told of engines

    -- of those before it, and of its own
    later_engines : (early late : List Access) → TellsFirst ports port.0 early → ShowsEnginesStoppedOrStuck port found late → TellsFirst (slice_set ports port.0 found) (port.0 + 1) (early ++ late)
    later_engines early late before here q less = elim (cases_eq q port.0) [
      | inl e ↦
          let P : ℕ → Type 0 = λ k. ShowsEnginesStoppedOrStuck (port_at k) (probe_result_of (slice_set ports port.0 found) k) (early ++ late) in
          let Q : ProbeResult → Type 0 = λ f. ShowsEnginesStoppedOrStuck port f (early ++ late) in
          subst P (sym e) (subst Q (sym here_is) (tells_since laws port found early late here))
      | inr other ↦
          let Q : ProbeResult → Type 0 = λ f. ShowsEnginesStoppedOrStuck (port_at q) f (early ++ late) in
          subst Q (sym (other_is q other)) (tells_then laws (port_at q) (probe_result_of ports q) early late (before q (omega (arith, less, other))))
    ]

    -- and where nothing was done
    same_engines : found ≡ Unserved → (accesses : List Access) → TellsFirst ports port.0 accesses → TellsFirst (slice_set ports port.0 found) (port.0 + 1) accesses
    same_engines is accesses before q less = elim (cases_eq q port.0) [
      | inl e ↦
          let P : ℕ → Type 0 = λ k. ShowsEnginesStoppedOrStuck (port_at k) (probe_result_of (slice_set ports port.0 found) k) accesses in
          let Q : ProbeResult → Type 0 = λ f. ShowsEnginesStoppedOrStuck port f accesses in
          subst P (sym e) (subst Q (sym (here_is ∙ is)) tt)
      | inr other ↦
          let Q : ProbeResult → Type 0 = λ f. ShowsEnginesStoppedOrStuck (port_at q) f accesses in
          subst Q (sym (other_is q other)) (before q (omega (arith, less, other)))
    ]

    -- ---- its slots are not used afterwards

    unused_here : AllFree u.uses port.0
    unused_here slot = u.free port.0 slot (omega arith)

    -- what halts the ports
    later_halts : (next : SlotStates → SlotStates) → IsSimulatedChangingUses (IsBootAccess port) (λ uses. AllFree uses port.0) next old new
        → ((q : ℕ) → q < port.0 + 1 → BacksProbeResult (wanted_of wanted q) (probe_result_of (slice_set ports port.0 found) q) q new)
        → (q : ℕ) → q < port.0 + 1 → ReadyPortHaltFitsTakenCommands (probe_result_of (slice_set ports port.0 found) q) q new
    later_halts next f stand q less = elim (cases_eq q port.0) [
      | inl e ↦
          let P : ℕ → Type 0 = λ k. ReadyPortHaltFitsTakenCommands (probe_result_of (slice_set ports port.0 found) k) k new in
          let Q : ProbeResult → Type 0 = λ f. ReadyPortHaltFitsTakenCommands f port.0 new in
          subst P (sym e) (subst Q (sym here_is) halts)
      | inr other ↦
          let Q : ProbeResult → Type 0 = λ f. ReadyPortHaltFitsTakenCommands f q old in
          still_halts (IsBootAccess port) (λ uses. AllFree uses port.0) next u.uses q old new (λ access may. laws.one_port_spares_registers port (port_at q) Cmd other access (laws.boot_access_is_of_port port access may)) unused_here f u.agreed
          (wanted_of wanted q) (probe_result_of (slice_set ports port.0 found) q) (stand q less) (subst Q (sym (other_is q other)) (u.halts q (omega (arith, less, other))))
    ]

    pub booted : found ≢ Unserved → IsSimulatedBoot (ShowsEnginesStoppedOrStuck port found) port old new → Later
    booted served told =
        let f : IsSimulated (IsBootAccess port) (λ uses. AllFree uses port.0) old new = told.is_simulated in
        let quiet : (q : Port) → q.0 ≢ port.0 → (u.uses q.0 0 ≡ Own Identify → ⊥) → GainsNoMove q.0 Identify old new =
        λ (q : Port) (other : q.0 ≢ port.0) (not : u.uses q.0 0 ≡ Own Identify → ⊥).
        laws.fragments.unused_slot_gains_no_move (Booting port) (λ uses. uses) u.uses q Identify old new unused_here (λ access may. laws.one_port_spares_registers port q Ci other access (laws.boot_access_is_of_port port access may))
        (λ access may. laws.one_port_spares_registers port q Sact other access (laws.boot_access_is_of_port port access may)) refl not f u.agreed in
        record {
          on = on;
          same = later_same f.is_driven quiet;
          long = length-set ports port.0 found ∙ u.long;
          uses = u.uses;
          left = λ q slot. elim (cases_eq q port.0) [
            | inl e ↦ inl (u.free q slot (omega (arith, e)))
            | inr other ↦ was_left q slot other
          ];
          free = λ q slot more. u.free q slot (omega (arith, more));
          told = then_told wanted unused_slots (TellsFirst ports port.0) (ShowsEnginesStoppedOrStuck port found) (TellsFirst (slice_set ports port.0 found) (port.0 + 1)) later_engines (PortUnused port) (λ uses. uses)
              u.uses start old new unused_here u.told
              (told_wider laws (ShowsEnginesStoppedOrStuck port found) (Booting port) (TakingOver wanted (PortUnused port)) (λ uses. uses) old new (taking f.is_driven quiet served) (λ uses free. free) told);
          agreed = laws.fragments.some_machine_agrees (Booting port) (λ uses. uses) u.uses old new unused_here f u.agreed;
          stands = later_stands f.is_driven quiet;
          halts = later_halts (λ uses. uses) f (later_stands f.is_driven quiet);
          reset = later_reset f.is_driven quiet;
          idle = later_idle f.is_driven quiet;
        }

    -- ---- or it is dead, and its disk may yet send its page

    abbrev Asked : SlotStates → SlotStates
    Asked uses = set_slot_state uses port.0 0 (Own Identify)

    pub died : found ≡ Unready Dead → IsSimulatedAlongChangingUses (ShowsEnginesStoppedOrStuck port found) (IsBootAccess port) (λ uses. AllFree uses port.0) Asked old new → Later
    died dead told =
        let f : IsSimulatedChangingUses (IsBootAccess port) (λ uses. AllFree uses port.0) Asked old new = told.is_simulated in
        let served : found ≢ Unserved = λ (e : found ≡ Unserved). absurd (let k : Unready Dead ≡ Unserved = sym dead ∙ e in cc) in
        let quiet : (q : Port) → q.0 ≢ port.0 → (u.uses q.0 0 ≡ Own Identify → ⊥) → GainsNoMove q.0 Identify old new =
        λ (q : Port) (other : q.0 ≢ port.0) (not : u.uses q.0 0 ≡ Own Identify → ⊥).
        laws.fragments.unused_slot_gains_no_move (Booting port) Asked u.uses q Identify old new unused_here (λ access may. laws.one_port_spares_registers port q Ci other access (laws.boot_access_is_of_port port access may))
        (λ access may. laws.one_port_spares_registers port q Sact other access (laws.boot_access_is_of_port port access may)) refl not f u.agreed in
        let stays : (q : ℕ) (o : Operation) → u.uses q 0 ≡ Own o → Asked u.uses q 0 ≡ Own o =
        λ (q : ℕ) (o : Operation) (e : u.uses q 0 ≡ Own o).
        laws.setting_slot_keeps_others u.uses port.0 0 (Own Identify) q 0 (λ driver_state_of_slots head. absurd (let k : Own o ≡ Free = sym e ∙ u.free q 0 (omega (arith, driver_state_of_slots)) in cc)) ∙ e in
        record {
          on = on;
          same = later_same f.is_driven quiet;
          long = length-set ports port.0 found ∙ u.long;
          uses = Asked u.uses;
          left = λ q slot. elim (cases_eq q port.0) [
            | inl e ↦ elim (cases_eq slot 0) [
              | inl head ↦ inr (
                head,
                let P : ℕ → Type 0 = λ k. Asked u.uses k 0 ≡ Own Identify in subst P (sym e) (laws.set_slot_has_state u.uses port.0 0 (Own Identify)),
                let P : ℕ → Type 0 = λ k. probe_result_of (slice_set ports port.0 found) k ≡ Unready Dead in subst P (sym e) (here_is ∙ dead),
              )
              | inr tail ↦ inl (laws.setting_slot_keeps_others u.uses port.0 0 (Own Identify) q slot (λ driver_state_of_slots head. tail head) ∙ u.free q slot (omega (arith, e)))
            ]
            | inr other ↦ elim (was_left q slot other) [
              | inl free ↦ inl (laws.setting_slot_keeps_others u.uses port.0 0 (Own Identify) q slot (λ driver_state_of_slots head. other driver_state_of_slots) ∙ free)
              | inr (head, own, is) ↦ inr (head, stays q Identify own, is)
            ]
          ];
          free = λ q slot more. laws.setting_slot_keeps_others u.uses port.0 0 (Own Identify) q slot (λ driver_state_of_slots head. absurd (omega (arith, driver_state_of_slots, more))) ∙ u.free q slot (omega (arith, more));
          told = then_told wanted unused_slots (TellsFirst ports port.0) (ShowsEnginesStoppedOrStuck port found) (TellsFirst (slice_set ports port.0 found) (port.0 + 1)) later_engines (PortUnused port) Asked
              u.uses start old new unused_here u.told
              (told_wider laws (ShowsEnginesStoppedOrStuck port found) (Booting port) (TakingOver wanted (PortUnused port)) Asked old new (taking f.is_driven quiet served) (λ uses free. free) told);
          agreed = laws.fragments.some_machine_agrees (Booting port) Asked u.uses old new unused_here f u.agreed;
          stands = later_stands f.is_driven quiet;
          halts = later_halts Asked f (later_stands f.is_driven quiet);
          reset = later_reset f.is_driven quiet;
          idle = later_idle f.is_driven quiet;
        }

    -- ---- or it isn't served

    pub passed : found ≡ Unserved → new ≡ old → Later
    passed is same =
        let P : Device → Type 0 = λ d. IsUnderway wanted (slice_set ports port.0 found) (port.0 + 1) start d in
        subst P (sym same) (record {
          on = u.on;
          same = u.same;
          long = length-set ports port.0 found ∙ u.long;
          uses = u.uses;
          left = λ q slot. elim (cases_eq q port.0) [
            | inl e ↦ inl (u.free q slot (omega (arith, e)))
            | inr other ↦ was_left q slot other
          ];
          free = λ q slot more. u.free q slot (omega (arith, more));
          told = told_more (TellsFirst ports port.0) (TellsFirst (slice_set ports port.0 found) (port.0 + 1)) (IsTakeOverAccess wanted) (SameSlotStates unused_slots) (λ _. u.uses) start old (same_engines is) u.told;
          agreed = u.agreed;
          stands = λ q less. elim (cases_eq q port.0) [
            | inl e ↦
                let R : ℕ → Type 0 = λ k. BacksProbeResult (wanted_of wanted k) (probe_result_of (slice_set ports port.0 found) k) k old in
                let Q : ProbeResult → Type 0 = λ f. BacksProbeResult (wanted_of wanted port.0) f port.0 old in
                let D : Device → Type 0 = λ d. BacksProbeResult (wanted_of wanted port.0) found port.0 d in
                subst R (sym e) (subst Q (sym here_is) (subst D same stands))
            | inr other ↦
                let Q : ProbeResult → Type 0 = λ f. BacksProbeResult (wanted_of wanted q) f q old in
                subst Q (sym (other_is q other)) (u.stands q (omega (arith, less, other)))
          ];
          reset = λ q less. elim (cases_eq q port.0) [
            | inl e ↦
                let R : ℕ → Type 0 = λ k. WroteSctlUnlessUnservedOrDead (probe_result_of (slice_set ports port.0 found) k) k (length start.tape) old in
                let Q : ProbeResult → Type 0 = λ f. WroteSctlUnlessUnservedOrDead f port.0 (length start.tape) old in
                subst R (sym e) (subst Q (sym (here_is ∙ is)) tt)
            | inr other ↦
                let Q : ProbeResult → Type 0 = λ f. WroteSctlUnlessUnservedOrDead f q (length start.tape) old in
                subst Q (sym (other_is q other)) (u.reset q (omega (arith, less, other)))
          ];
          halts = λ q less. elim (cases_eq q port.0) [
            | inl e ↦
                let R : ℕ → Type 0 = λ k. ReadyPortHaltFitsTakenCommands (probe_result_of (slice_set ports port.0 found) k) k old in
                let Q : ProbeResult → Type 0 = λ f. ReadyPortHaltFitsTakenCommands f port.0 old in
                subst R (sym e) (subst Q (sym (here_is ∙ is)) (λ info ready. let z : Unserved ≡ Ready info = ready in absurd cc))
            | inr other ↦
                let Q : ProbeResult → Type 0 = λ f. ReadyPortHaltFitsTakenCommands f q old in
                subst Q (sym (other_is q other)) (u.halts q (omega (arith, less, other)))
          ];
          idle = λ q more. u.idle q (omega (arith, more));
        })

    -- whatever it was found to be
    pub next : IsSimulatedBootOrNothing port found old new → Later
    next boots = by found refl boots
      where
        booted_as : (f : ProbeResult) → found ≡ f → f ≢ Unserved → IsSimulatedBoot (ShowsEnginesStoppedOrStuck port f) port old new → Later
        booted_as f is served b = booted (λ e. served (sym is ∙ e)) (subst (λ (x : ProbeResult). IsSimulatedBoot (ShowsEnginesStoppedOrStuck port x) port old new) (sym is) b)

        by_state : (state : PortState) → found ≡ Unready state → IsSimulatedBootTo (StopsEachEngine port) port state old new → Later
        by_state Dead is (inl b) = booted_as (Unready Dead) is (λ e. absurd cc) b
        by_state Dead is (inr b) = died is (subst (λ (x : ProbeResult). IsSimulatedAlongChangingUses (ShowsEnginesStoppedOrStuck port x) (IsBootAccess port) (λ uses. AllFree uses port.0) Asked old new) (sym is) b)
        by_state Absent is b = booted_as (Unready Absent) is (λ e. absurd cc) b
        by_state ReadyState is b = booted_as (Unready ReadyState) is (λ e. absurd cc) b
        by_state Foreign is b = booted_as (Unready Foreign) is (λ e. absurd cc) b
        by_state (Unfit n) is b = booted_as (Unready (Unfit n)) is (λ e. absurd cc) b

        by : (f : ProbeResult) → found ≡ f → IsSimulatedBootOrNothing port f old new → Later
        by Unserved is same = passed is same
        by (Ready info) is b = booted_as (Ready info) is (λ e. absurd cc) b
        by (Unready state) is b = by_state state is b

  -- the adapter is what it was
  pub boots_same : (port : Port) (old new : Device) (found : ProbeResult) → IsSimulatedBootOrNothing port found old new → SameAdapter old new
  boots_same port old new Unserved is = subst (SameAdapter old) (sym is) (laws.same_adapter_is_reflexive old)
  boots_same port old new (Ready info) f = same_over laws (IsBootAccess port) old new f.is_simulated.is_driven
  boots_same port old new (Unready state) f = same_over laws (IsBootAccess port) old new (laws.boot_with_stops_is_driven port state old new f)

  hosting : (wanted : List Wanted) (old new : Device) → IsSimulated ReadsCapOrPiOrSetsAe AnySlotStates old new → IsSimulated (IsTakeOverAccess wanted) AnySlotStates old new
  hosting wanted old new f = (laws.fragments.is_of_wider_kind AccessingHostRegisters (TakingOver wanted AnyUses) (λ uses. uses) (λ access may. inl may) (λ uses is. is) old new f).is_simulated

  module _ (wanted : List Wanted) (start : Device) where
    -- no port was booted yet
    pub begins : (ports : List ProbeResult) (d : Device) → length ports ≡ 4 → IsIdle start → SomeMachineAgrees unused_slots start → IsOn d → OnlyDeviceChangesPorts start d → IsSimulated ReadsCapOrPiOrSetsAe AnySlotStates start d →
        IsUnderway wanted ports 0 start d
    begins ports d long idle agreed on leaves f = record {
      on = on;
      same = same_over laws ReadsCapOrPiOrSetsAe start d f.is_driven;
      long = long;
      uses = unused_slots;
      left = λ port slot. inl refl;
      free = λ port slot more. refl;
      told = record { is_simulated = goes_on wanted unused_slots start d (hosting wanted start d f); accesses_are_such = λ port less. absurd (omega (arith, less)) };
      agreed = laws.fragments.some_machine_agrees AccessingHostRegisters (λ uses. uses) unused_slots start d tt f agreed;
      stands = λ port less. absurd (omega (arith, less));
      reset = λ port less. absurd (omega (arith, less));
      halts = λ port less. absurd (omega (arith, less));
      idle = λ port more. idle_on (start.port port) (d.port port) (leaves port) (idle.ports_are_idle port);
    }

    -- all were
    module _ (ports : List ProbeResult) (d new : Device) (u : IsUnderway wanted ports 4 start d) (leaves : OnlyDeviceChangesPorts d new) (f : IsSimulated ReadsCapOrPiOrSetsAe AnySlotStates d new) where
      abbrev Silent : ℕ → Type 0
      Silent port = GainsNoMove port Identify d new

      silent : (port : ℕ) → probe_result_of ports port ≢ Unready Dead → Silent port
      silent port alive = laws.fragments.unused_slot_gains_no_move AccessingHostRegisters (λ uses. uses) u.uses (port_at port) Identify d new tt (host_spares (port_at port) Ci) (host_spares (port_at port) Sact) refl
          (λ own. elim (u.left port 0) [
            | inl free ↦ absurd (let e : Own Identify ≡ Free = sym own ∙ free in cc)
            | inr (head, is, dead) ↦ alive dead
          ]) f u.agreed

      all_told : IsSimulatedAlongChangingUses (TellsFirst ports 4) (IsTakeOverAccess wanted) (SameSlotStates unused_slots) (λ _. u.uses) start new
      all_told = then_told wanted unused_slots (TellsFirst ports 4) (λ late. Unit {0}) (TellsFirst ports 4) (λ early late is any port less. tells_then laws (port_at port) (probe_result_of ports port) early late (is port less))
          AnyUses (λ uses. uses) u.uses start d new tt u.told (record { is_simulated = hosting wanted d new f; accesses_are_such = tt })

      pub ends : (host : Host) → host.ports ≡ ports → host.slot_count ≡ new.cap / 256 % 32 + 1 → host.supports_ncq ≡ bit new.cap 30 → IsOn new → new.ie ≡ true → SwitchesOnBootsAndEnablesInterrupts ports start new → TakesOver wanted host start new
      ends host is slots queued on tells way = record {
        adapter_is_on = on;
        ie_is_set = tells;
        adapter_is_kept = laws.same_adapter_is_transitive start d new u.same (same_over laws ReadsCapOrPiOrSetsAe d new f.is_driven);
        slot_count_is_of_cap = slots;
        ncq_is_of_cap = queued;
        results_are_backed = λ port less.
            let P : List ProbeResult → Type 0 = λ ps. BacksProbeResult (wanted_of wanted port) (probe_result_of ps port) port new in
            subst P (sym is) (stands_on laws.probe_results port d new (leaves port) (same_over laws ReadsCapOrPiOrSetsAe d new f.is_driven) (wanted_of wanted port) (probe_result_of ports port) (silent port) (u.stands port less));
        sctl_was_written_unless_unserved_or_dead = λ port less.
            let P : List ProbeResult → Type 0 = λ ps. WroteSctlUnlessUnservedOrDead (probe_result_of ps port) port (length start.tape) new in
            subst P (sym is) (reset_on port d new (leaves port) (probe_result_of ports port) (length start.tape) (u.reset port less));
        halt_fits_taken_commands = λ port less.
            let P : List ProbeResult → Type 0 = λ ps. ReadyPortHaltFitsTakenCommands (probe_result_of ps port) port new in
            subst P (sym is) (still_halts ReadsCapOrPiOrSetsAe AnySlotStates (λ uses. uses) u.uses port d new (host_spares (port_at port) Cmd) tt f u.agreed (wanted_of wanted port) (probe_result_of ports port)
            (stands_on laws.probe_results port d new (leaves port) (same_over laws ReadsCapOrPiOrSetsAe d new f.is_driven) (wanted_of wanted port) (probe_result_of ports port) (silent port) (u.stands port less)) (u.halts port less));
        switches_on_and_boots = let P : List ProbeResult → Type 0 = λ ps. SwitchesOnBootsAndEnablesInterrupts ps start new in subst P (sym is) way;
        uses = u.uses;
        slots_are_unused_or_dead = λ port slot. let P : List ProbeResult → Type 0 = λ ps. IsUnusedOrIdentifyOfDeadPort ps u.uses port slot in subst P (sym is) (u.left port slot);
        followed = all_told.is_simulated;
        engines_are_shown_stopped_or_stuck = let P : List ProbeResult → Type 0 = λ ps. TellsFirst ps 4 all_told.is_simulated.is_driven.accesses in subst P (sym is) all_told.accesses_are_such;
        machine_is_related = laws.fragments.some_machine_agrees AccessingHostRegisters (λ uses. uses) u.uses d new tt f u.agreed;
      }
