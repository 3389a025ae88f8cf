-- A port that isn't ready is tried: what it was found to be, and what the server then is.
use Rattle.std.proofs.Common.{ℕ, true, false, ◌≡◌, ◌≢◌, set, refl, sym, subst}
use Rattle.ata_types.specs.declared.Port.{Port}
use Rattle.ata_types.specs.declared.PortState.{PortState}
use Rattle.ata_types.specs.declared.PortState.TheVariants.{Absent, Dead, Foreign, Ready, Unfit}
use Rattle.adapter.specs.Device.{Device}
use Rattle.refinement.specs.Fragments.{AnySlotStates, IsSimulated}
use Rattle.block_machine.specs.declared.due.QueueMode.{QueueMode}
use Rattle.error_recovery.specs.declared.Next.{Next}
use Rattle.error_recovery.specs.declared.Next.TheVariants as next
use Rattle.host_boot.specs.TakeOver.{probe_result_of, wanted_of}
use Rattle.host_boot.specs.declared.ProbeResult.{ProbeResult}
use Rattle.host_boot.specs.declared.ProbeResult.TheVariants.{Unready}
use Rattle.identify.specs.declared.wanted.Wanted.{Wanted}
use Rattle.port_control.specs.declared.Running.{Running}
use Rattle.port_control.specs.declared.Stopped.{Stopped}
use Rattle.port_control.specs.PortEvents.{IsPxisSstsOrOwnIsAccess}
use Rattle.server_history.specs.ErrorHandling.{HasAllSlotsFreeAndCountOfMode}
use Rattle.server_history.specs.ServerState.{ServerState, InvariantWithNoneDue}
use Rattle.server_history.specs.Probing.{ProbesAnew, IsFoundAfterStop, FindsReasonToBoot, ProbesPort}
use Rattle.server_history.specs.Turns.{ProbesUnready}
use Rattle.slots.specs.SlotUses.{PortSlots}

-- what is to be booted isn't dead
pub booted_alive : (state : PortState) (port : Port) (old new : Device) → FindsReasonToBoot state port true old new → state ≢ Dead
booted_alive Absent port old new looks = λ dead. let z : Absent ≡ Dead = dead in cc
booted_alive Foreign port old new looks = λ dead. let z : Foreign ≡ Dead = dead in cc
booted_alive (Unfit cause) port old new looks = λ dead. let z : Unfit cause ≡ Dead = dead in cc
booted_alive Ready port old new looks = let z : true ≡ false = looks.0 in absurd cc
booted_alive Dead port old new looks = let z : true ≡ false = looks.0 in absurd cc

-- a port that was given up, and may not be booted, is dead
pub found_dead : (wanted : Wanted) (port : Port) (way : Next) (d : Device) → ((token : Running) → way ≢ next.Running token) → ((token : Stopped) → way ≡ next.Restart token → ⊥)
    → IsFoundAfterStop wanted port way d d (Unready Dead)
found_dead wanted port (next.Running token) d halts restarts = absurd (halts token refl)
found_dead wanted port (next.Restart token) d halts restarts = absurd (restarts token refl)
found_dead wanted port next.Dead d halts restarts = (refl, refl)

-- the server once its port was found anew
abbrev pub found_anew : ServerState → Device → ProbeResult → QueueMode → PortSlots → ℕ → ServerState
found_anew s new found mode slots number = record s {
  device = new;
  probe_results = set s.probe_results number found;
  modes = set s.modes number mode;
  slots = set s.slots number slots;
}

-- what the law says of a port that was tried
abbrev pub SettlesTried : Type 0
SettlesTried = (s new : ServerState) (port : Port) → InvariantWithNoneDue s → (probes : ProbesPort port s new) → (probes.state ≢ Dead → IsSimulated (IsPxisSstsOrOwnIsAccess port) AnySlotStates s.device probes.device_after_look) → ProbesUnready port s new × InvariantWithNoneDue new

module _ (law : SettlesTried) (s : ServerState) (port : Port) (state : PortState) (is : probe_result_of s.probe_results port.0 ≡ Unready state) (settled : InvariantWithNoneDue s) (seen : Device) where
  -- where nothing shows, that was all
  pub left_settles : FindsReasonToBoot state port false s.device seen → IsSimulated (IsPxisSstsOrOwnIsAccess port) AnySlotStates s.device seen → ProbesUnready port s (record s { device = seen }) × InvariantWithNoneDue (record s { device = seen })
  left_settles looks followed = law s (record s { device = seen }) port settled probes (λ alive. followed)
    where
      probes : ProbesPort port s (record s { device = seen })
      probes = record {
        state = state;
        unready_state_is = is;
        has_found_something = false;
        device_after_look = seen;
        is_looked_at = looks;
        is_left_if_not_found = λ none. refl;
        boots = λ booted. let z : false ≡ true = booted in absurd cc;
      }

  module _ (looks : FindsReasonToBoot state port true s.device seen) (followed : IsSimulated (IsPxisSstsOrOwnIsAccess port) AnySlotStates s.device seen) (new : Device) (found : ProbeResult) (mode : QueueMode) (slots : PortSlots)
      (finds : ProbesAnew (wanted_of s.wanted port.0) port found mode seen new) (unused : HasAllSlotsFreeAndCountOfMode mode slots) where
    boots_so : ProbesPort port s (found_anew s new found mode slots port.0)
    boots_so = record {
      state = state;
      unready_state_is = is;
      has_found_something = true;
      device_after_look = seen;
      is_looked_at = looks;
      is_left_if_not_found = λ none. let z : true ≡ false = none in absurd cc;
      boots = λ booted. record {
        found = found;
        mode = mode;
        probes_anew = finds;
        slots = slots;
        has_no_used_slot = unused;
        server_is = refl;
      };
    }

    -- else it was given up, and booted
    pub booted_settles : (number : ℕ) → number ≡ port.0 → ProbesUnready port s (found_anew s new found mode slots number) × InvariantWithNoneDue (found_anew s new found mode slots number)
    unfolding boots_so
    booted_settles number same =
        subst (λ (n : ℕ). ProbesUnready port s (found_anew s new found mode slots n) × InvariantWithNoneDue (found_anew s new found mode slots n)) (sym same)
        (law s (found_anew s new found mode slots port.0) port settled boots_so (λ alive. followed))
