use Rattle.ata_types.specs.declared.limits.TheConstants.{MOST_READINGS}
use Rattle.std.proofs.Common.{◌≡◌, refl, sym, ◌∙◌, arith}
use Rattle.port_control.proofs.Using.{usable_after}
use Rattle.port_control.proofs.Ceasing.{stop_may, stop_told, stop_has, falls, falling_on, has_still, fallen, falls_still, told_awaits}
use Rattle.port_control.proofs.stop.Goals as goal
use Rattle.port_control.specs.Laws.RegisterSet.{Commanding}

pub write-requires : goal.write-requires
write-requires g c = stop_may c.law_prerequisites.ensures _ _ _ _ _ c.requires.on_and_agrees c.read.ensures.does c.without_start.ensures.cleared c.without_start.ensures.others_are_kept

pub loop-reading-init : goal.loop-reading-init
loop-reading-init g c = record {
  known = record {
    told = stop_told c.law_prerequisites.ensures _ _ _ _ _ c.requires.on_and_agrees c.read.ensures.does c.without_start.ensures.cleared c.without_start.ensures.others_are_kept _ c.write.ensures.does;
    usable = usable_after c.law_prerequisites.ensures Commanding c.args.port _ _ c.requires.on_and_agrees (stop_told c.law_prerequisites.ensures _ _ _ _ _ c.requires.on_and_agrees c.read.ensures.does c.without_start.ensures.cleared c.without_start.ensures.others_are_kept _ c.write.ensures.does).is_simulated;
    has = stop_has c.law_prerequisites.ensures _ _ _ _ _ c.requires.on_and_agrees c.read.ensures.does c.without_start.ensures.cleared c.without_start.ensures.others_are_kept _ c.write.ensures.does;
    low = omega arith;
    high = λ h. absurd (omega (arith, h));
  };
  cost = omega arith;
}

pub returns-then-not-is_list_running-clause-adapter_is_on : goal.returns-then-not-is_list_running-clause-adapter_is_on
returns-then-not-is_list_running-clause-adapter_is_on g c = (falling_on c.law_prerequisites.ensures _ _ _ _ _ _ c.loop-reading.invariant.known c.read-in-loop-reading.ensures.does).adapter_is_on

pub returns-then-not-is_list_running-clause-st_is_cleared : goal.returns-then-not-is_list_running-clause-st_is_cleared
returns-then-not-is_list_running-clause-st_is_cleared g c = has_still c.law_prerequisites.ensures _ _ _ _ _ _ c.loop-reading.invariant.known c.read-in-loop-reading.ensures.does

pub returns-then-not-is_list_running-clause-stops : goal.returns-then-not-is_list_running-clause-stops
returns-then-not-is_list_running-clause-stops g c =
    let clear = sym c.is_list_running.ensures ∙ c.if-not-is_list_running.true in
    record {
      is_simulated = falls c.law_prerequisites.ensures _ _ _ _ _ _ c.loop-reading.invariant.known c.read-in-loop-reading.ensures.does clear;
      stopped = fallen c.law_prerequisites.ensures _ _ _ _ _ _ c.loop-reading.invariant.known c.read-in-loop-reading.ensures.does clear;
    }

pub loop-reading-preserved : goal.loop-reading-preserved
loop-reading-preserved g c = record {
  known = falls_still c.law_prerequisites.ensures _ _ _ _ _ _ c.loop-reading.invariant.known c.read-in-loop-reading.ensures.does (omega arith) (sym c.is_list_running.ensures ∙ c.if-not-is_list_running.false);
  cost = omega arith;
}

pub returns-clause-fails : goal.returns-clause-fails
returns-clause-fails g c =
    let w = c.loop-reading.invariant.known in
    let all : c.loop-reading._reading ≡ MOST_READINGS = omega arith in
    let low = w.low in
    let high = w.high (omega (arith, all)) in
    (refl, refl, record { is_simulated = told_awaits c.law_prerequisites.ensures 0 15 c.args.port _ all _ _ w.told; stuck_is_backed = omega (arith, all, low, high) })
