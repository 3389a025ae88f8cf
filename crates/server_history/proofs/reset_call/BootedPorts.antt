-- The ports of an adapter that is taken over, one after another: which part of the accesses is whose, and what it did.
use Rattle.std.proofs.Common.{ℕ, zero, suc, ◌<◌, length, ◌≡◌, ◌≢◌, ◌⊎◌, ◌+◌, ◌++◌, List, [], ◌∷◌, refl, sym, ap, ◌∙◌, subst, inl, inr, arith, append_assoc, ⊎_elim}
use Rattle.std.proofs.lemmas.Bool.{cases_eq}
use Rattle.std.proofs.lemmas.List.Elements.{All-append, All-nil, All-weaker}
use Rattle.ata_types.specs.declared.Port.{Port}
use Rattle.ata_types.specs.declared.PortState.{PortState}
use Rattle.ata_types.specs.declared.PortState.TheVariants.{Absent, Ready as ReadyState, Foreign, Unfit, Dead as DeadState}
use Rattle.hba_regs.specs.declared.reg.Reg.TheVariants.{Px}
use Rattle.adapter.specs.Access.{Access}
use Rattle.adapter.specs.Access.Access.{Loading, Reading, Storing, Writing}
use Rattle.adapter.specs.Device.{Device}
use Rattle.refinement.specs.Relation.{port_at}
use Rattle.refinement.specs.Fragments.{ReadsPortOrWrites, IsDrivenBy}
use Rattle.driver_history.specs.PortTurn.{HasTurnIn, KeepsToAnotherPort, call_accesses}
use Rattle.driver_history.specs.AccessTrace.{LastSctlWritesResetLink}
use Rattle.host_boot.specs.TakeOver.{StopsAndBootsOrDoesNothing, BootsEachServedPortOrSticks, probe_result_of}
use Rattle.host_boot.specs.declared.ProbeResult.{ProbeResult}
use Rattle.host_boot.specs.declared.ProbeResult.TheVariants.{Unserved, Ready, Unready}
use Rattle.port_boot.specs.States.{EndsBeforeStart, EndsAfterStart, BringsReady, IsBeforeStart, IsStateStoppedAfterStart, IsBootAccess}
use Rattle.port_control.specs.Engines.{EngineSticks}
use Rattle.port_control.specs.Ports.{IsCommandRegister}
use Rattle.server_history.specs.Prerequisites.{PrerequisiteLaws}
use Rattle.server_history.proofs.any_turn.JoinedParts.{dead_or_not}
use Rattle.server_history.proofs.recovery_turn.LinkResets.{ResetsBy, early_resets, late_resets, ready_resets, resets_since}

-- ---- one port

-- What was done of a port that was found to be this. One that is ready got so once it was stopped. Its link was reset, unless it is dead: then one of its engines was seen to be stuck.
abbrev pub DidBoot : Port → ProbeResult → List Access → Device → Device → Type 0
DidBoot port Unserved accesses old new = Unit {0}
DidBoot port (Ready info) accesses old new = LastSctlWritesResetLink port accesses × ((stopped : Device) × IsDrivenBy (ReadsPortOrWrites IsCommandRegister port) old stopped × BringsReady port stopped new)
DidBoot port (Unready state) accesses old new = (state ≡ DeadState → EngineSticks port accesses) × (state ≢ DeadState → state ≢ ReadyState → LastSctlWritesResetLink port accesses)

-- an access of the port's boot, if it is served
abbrev pub IsBootOf : Port → ProbeResult → Access → Type 0
IsBootOf port found access = (found ≢ Unserved) × IsBootAccess port access

-- it was done by such a list of accesses
abbrev BootsBy : Port → ProbeResult → Device → Device → Type 0
BootsBy port found old new = (driven : IsDrivenBy (IsBootOf port found) old new) × DidBoot port found driven.accesses old new

pub command_boots : (port : Port) (access : Access) → ReadsPortOrWrites IsCommandRegister port access → IsBootAccess port access
command_boots port (Reading (Px at r) v) is = inl is
command_boots port (Reading r v) is = absurd is
command_boots port (Writing (Px at r) v) is = inl (is.0, inl (inl is.1))
command_boots port (Writing r v) is = absurd is
command_boots port (Loading at bytes) is = absurd is
command_boots port (Storing at bytes) is = absurd is

module _ (laws : PrerequisiteLaws) where
  module _ (port : Port) (found : ProbeResult) (served : found ≢ Unserved) (old stopped new : Device) (stops : IsDrivenBy (ReadsPortOrWrites IsCommandRegister port) old stopped) where
    -- the stop, and then a boot
    then_boots : IsDrivenBy (IsBootAccess port) stopped new → IsDrivenBy (IsBootOf port found) old new
    then_boots boot = record {
      accesses = stops.accesses ++ boot.accesses;
      all_are_done = laws.steps_and_accesses.does_append stops.accesses boot.accesses old stopped new stops.all_are_done boot.all_are_done;
      accesses_are_of_kind = All-append (IsBootOf port found) stops.accesses boot.accesses
          (All-weaker (ReadsPortOrWrites IsCommandRegister port) (IsBootOf port found) (λ access is. (served, command_boots port access is)) stops.accesses stops.accesses_are_of_kind)
          (All-weaker (IsBootAccess port) (IsBootOf port found) (λ access is. (served, is)) boot.accesses boot.accesses_are_of_kind);
    }

    reset_by : ResetsBy port stopped new → (driven : IsDrivenBy (IsBootOf port found) old new) × LastSctlWritesResetLink port driven.accesses
    unfolding then_boots
    reset_by r = (then_boots r.driven, resets_since port stops.accesses r.driven.accesses r.resets)

  module _ (port : Port) (old stopped new : Device) (stops : IsDrivenBy (ReadsPortOrWrites IsCommandRegister port) old stopped) where
    resets_by : (state : PortState) → state ≢ DeadState → ResetsBy port stopped new → BootsBy port (Unready state) old new
    resets_by state lives r =
        let x = reset_by port (Unready state) (λ e. let z : Unready state ≡ Unserved = e in cc) old stopped new stops r in (x.0, ((λ dead. absurd (lives dead)), λ _ _. x.1))

    unready : (state : PortState) → IsDrivenBy (IsBootAccess port) stopped new → (IsBeforeStart state → EndsBeforeStart port state stopped new) → (IsStateStoppedAfterStart state → EndsAfterStart port stopped new) → state ≢ DeadState → BootsBy port (Unready state) old new
    unready DeadState boot early late other = absurd (other refl)
    unready ReadyState boot early late other = (then_boots port (Unready ReadyState) (λ e. let z : Unready ReadyState ≡ Unserved = e in cc) old stopped new stops boot, ((λ dead. absurd (other dead)), λ _ unready. absurd (unready refl)))
    unready Absent boot early late other = resets_by Absent other (early_resets laws port Absent stopped new (early tt))
    unready Foreign boot early late other = resets_by Foreign other (late_resets laws port stopped new (late tt))
    unready (Unfit n) boot early late other = ⊎_elim
        (λ (busy : n ≡ 7). by_early (inl busy))
        (λ (idle : n ≢ 7). ⊎_elim (λ (strange : n ≡ 8). by_early (inr strange)) (λ (known : n ≢ 8). resets_by (Unfit n) other (late_resets laws port stopped new (late (idle, known)))) (cases_eq n 8))
        (cases_eq n 7)
      where
        by_early : (n ≡ 7) ⊎ (n ≡ 8) → BootsBy port (Unready (Unfit n)) old new
        by_early is = resets_by (Unfit n) other (early_resets laws port (Unfit n) stopped new (early is))

  boots_by : (port : Port) (found : ProbeResult) (old new : Device) → StopsAndBootsOrDoesNothing port found old new → BootsBy port found old new
  boots_by port Unserved old new same = (record { accesses = []; all_are_done = same; accesses_are_of_kind = All-nil (IsBootOf port Unserved) }, tt)
  boots_by port (Ready info) old new (stopped, stops, boot, ready, news) =
      let r = reset_by port (Ready info) (λ e. let z : Ready info ≡ Unserved = e in cc) old stopped new stops (ready_resets laws port stopped new ready) in (r.0, (r.1, (stopped, stops, ready)))
  boots_by port (Unready state) old new (stopped, stops, boot, early, late, sticks) = ⊎_elim
      (λ (dead : state ≡ DeadState).
      let x = sticks dead in (
        record { accesses = x.driven.accesses; all_are_done = x.driven.all_are_done; accesses_are_of_kind = All-weaker (IsBootAccess port) (IsBootOf port (Unready state)) (λ access is. ((λ e. let z : Unready state ≡ Unserved = e in cc), is)) x.driven.accesses x.driven.accesses_are_of_kind },
        ((λ _. x.sticks), λ lives. absurd (lives dead)),
      ))
      (λ (lives : state ≢ DeadState). unready port old stopped new stops state boot early late lives)
      (dead_or_not state)

-- ---- ports one after another

-- an access of the boot of one of these ports, which is served; the first of them has this number
abbrev pub IsOfFound : ℕ → List ProbeResult → Access → Type 0
IsOfFound first ports access = (port : Port) × (k : ℕ) × (port.0 ≡ first + k) × IsBootOf port (probe_result_of ports k) access

-- a port's part of these accesses
pub record TookTurn (port : Port) (found : ProbeResult) (accesses : List Access) (old new : Device) : Type 0 where
  pub turn : HasTurnIn port old new
  pub all : call_accesses turn ≡ accesses
  pub did : DidBoot port found turn.turn turn.start turn.end

-- These ports went their way, by accesses of which each has a part.
pub record WentBy (first : ℕ) (ports : List ProbeResult) (old new : Device) : Type 0 where
  pub driven : IsDrivenBy (IsOfFound first ports) old new
  pub each : (port : Port) (k : ℕ) → port.0 ≡ first + k → k < length ports → TookTurn port (probe_result_of ports k) driven.accesses old new

module _ (laws : PrerequisiteLaws) where
  of_other : (port : Port) (first : ℕ) (ports : List ProbeResult) → port.0 < first → (access : Access) → IsOfFound first ports access → KeepsToAnotherPort port access
  of_other port first ports before access (q, k, at, its) = (q, (λ same. absurd (omega (arith, before, same, at))), laws.boot_access_is_of_port q access its.1)

  -- the first of them
  module _ (first : ℕ) (found : ProbeResult) (rest : List ProbeResult) (old mid new : Device) (way : StopsAndBootsOrDoesNothing (port_at first) found old mid) (more : WentBy (first + 1) rest mid new) where
    one : BootsBy (port_at first) found old mid
    one = boots_by laws (port_at first) found old mid way

    all : IsDrivenBy (IsOfFound first (found ∷ rest)) old new
    all = record {
      accesses = one.0.accesses ++ more.driven.accesses;
      all_are_done = laws.steps_and_accesses.does_append one.0.accesses more.driven.accesses old mid new one.0.all_are_done more.driven.all_are_done;
      accesses_are_of_kind = All-append (IsOfFound first (found ∷ rest)) one.0.accesses more.driven.accesses
          (All-weaker (IsBootOf (port_at first) found) (IsOfFound first (found ∷ rest)) (λ access is. (port_at first, 0, (omega arith), is)) one.0.accesses one.0.accesses_are_of_kind)
          (All-weaker (IsOfFound (first + 1) rest) (IsOfFound first (found ∷ rest)) (λ access (q, k, at, its). (q, suc k, (omega (arith, at)), its)) more.driven.accesses more.driven.accesses_are_of_kind);
    }

    turn_here : (port : Port) → port.0 ≡ first → TookTurn port found all.accesses old new
    unfolding all
    turn_here port at = subst (λ (p : Port). TookTurn p found (one.0.accesses ++ more.driven.accesses) old new) (ap port_at (sym at)) (record {
      turn = record {
        before = [];
        turn = one.0.accesses;
        later = more.driven.accesses;
        start = old;
        end = mid;
        leads_to_start = refl;
        turn_leads_to_end = one.0.all_are_done;
        leads_to_new = more.driven.all_are_done;
        earlier_are_of_others = All-nil (KeepsToAnotherPort (port_at first));
        later_are_of_others = All-weaker (IsOfFound (first + 1) rest) (KeepsToAnotherPort (port_at first)) (of_other (port_at first) (first + 1) rest (omega arith)) more.driven.accesses more.driven.accesses_are_of_kind;
      };
      all = refl;
      did = one.1;
    })

    turn_later : (port : Port) (k : ℕ) → port.0 ≡ (first + 1) + k → k < length rest → TookTurn port (probe_result_of rest k) all.accesses old new
    unfolding all
    turn_later port k at small = record {
      turn = record {
        before = one.0.accesses ++ t.turn.before;
        turn = t.turn.turn;
        later = t.turn.later;
        start = t.turn.start;
        end = t.turn.end;
        leads_to_start = laws.steps_and_accesses.does_append one.0.accesses t.turn.before old mid t.turn.start one.0.all_are_done t.turn.leads_to_start;
        turn_leads_to_end = t.turn.turn_leads_to_end;
        leads_to_new = t.turn.leads_to_new;
        earlier_are_of_others = All-append (KeepsToAnotherPort port) one.0.accesses t.turn.before
            (All-weaker (IsBootOf (port_at first) found) (KeepsToAnotherPort port) (λ access is. (port_at first, (λ same. absurd (omega (arith, at, same))), laws.boot_access_is_of_port (port_at first) access is.1)) one.0.accesses one.0.accesses_are_of_kind)
            t.turn.earlier_are_of_others;
        later_are_of_others = t.turn.later_are_of_others;
      };
      all = append_assoc one.0.accesses t.turn.before (t.turn.turn ++ t.turn.later) ∙ ap (λ (list : List Access). one.0.accesses ++ list) t.all;
      did = t.did;
    }
      where
        t : TookTurn port (probe_result_of rest k) more.driven.accesses mid new
        t = more.each port k at small

    went_more : WentBy first (found ∷ rest) old new
    went_more = record { driven = all; each = each }
      where
        each : (port : Port) (k : ℕ) → port.0 ≡ first + k → k < length (found ∷ rest) → TookTurn port (probe_result_of (found ∷ rest) k) all.accesses old new
        each port zero at small = turn_here port (omega (arith, at))
        each port (suc k) at small = turn_later port k (omega (arith, at)) (omega (arith, small))

  pub went_by : (first : ℕ) (ports : List ProbeResult) (old new : Device) → BootsEachServedPortOrSticks first ports old new → WentBy first ports old new
  went_by first [] old new same = record { driven = record { accesses = []; all_are_done = same; accesses_are_of_kind = All-nil (IsOfFound first []) }; each = λ port k at small. absurd (omega (arith, small)) }
  went_by first (found ∷ rest) old new (mid, way, more) = went_more first found rest old mid new way (went_by (first + 1) rest mid new more)
