use Rattle.ata_types.specs.declared.limits.TheConstants.{MOST_READINGS}
use Rattle.std.proofs.Common.{◌≡◌, sym, ◌∙◌, arith, rules}
use Rattle.port_control.proofs.Using.{usable_after}
use Rattle.port_control.proofs.Ceasing.{empty_may, empty_begins, empties, emptied, empties_told, empties_still, told_awaits}
use Rattle.port_control.proofs.stop_receiving.Goals as goal
use Rattle.port_control.specs.Laws.RegisterSet.{Commanding}

pub write-requires : goal.write-requires
write-requires g c = empty_may c.law_prerequisites.ensures _ _ _ _ _ c.requires.usable c.read.ensures.does c.requires.stopped c.without_receive.ensures.cleared c.without_receive.ensures.others_are_kept

pub loop-reading-init : goal.loop-reading-init
loop-reading-init g c = record {
  known = let b = empty_begins c.law_prerequisites.ensures _ _ _ _ _ c.requires.usable c.read.ensures.does c.requires.stopped c.without_receive.ensures.cleared c.without_receive.ensures.others_are_kept _ c.write.ensures.does in
      record {
        told = b.0;
        has = record {
          usable = usable_after c.law_prerequisites.ensures Commanding c.args.port _ _ c.requires.usable b.0.is_simulated;
          stopped = b.1;
          fre = b.2;
          bases = b.3;
          same = b.4;
        };
        low = omega arith;
        high = λ h. absurd (omega (arith, h));
      };
  cost = omega arith;
}

pub returns-then-not-is_receive_running-clause-stops : goal.returns-then-not-is_receive_running-clause-stops
returns-then-not-is_receive_running-clause-stops g c = λ _. empties_told c.law_prerequisites.ensures _ _ _ _ _ _ c.loop-reading.invariant.known c.read-in-loop-reading.ensures.does (sym c.is_receive_running.ensures ∙ c.if-not-is_receive_running.true)

pub returns-then-not-is_receive_running-clause-clears : goal.returns-then-not-is_receive_running-clause-clears
returns-then-not-is_receive_running-clause-clears g c =
    let has = empties c.law_prerequisites.ensures _ _ _ _ _ _ c.loop-reading.invariant.known c.read-in-loop-reading.ensures.does in
    record { stopped = has.stopped; fre_is_clear = has.fre; bases_are_kept = has.bases; sctl_and_notes_but_cmd_are_kept = has.same }

pub returns-then-not-is_receive_running-clause-fallen : goal.returns-then-not-is_receive_running-clause-fallen
returns-then-not-is_receive_running-clause-fallen g c = λ _. emptied c.law_prerequisites.ensures _ _ _ _ _ _ c.loop-reading.invariant.known c.read-in-loop-reading.ensures.does (sym c.is_receive_running.ensures ∙ c.if-not-is_receive_running.true)

pub loop-reading-preserved : goal.loop-reading-preserved
loop-reading-preserved g c = record {
  known = empties_still c.law_prerequisites.ensures _ _ _ _ _ _ c.loop-reading.invariant.known c.read-in-loop-reading.ensures.does (omega arith) (sym c.is_receive_running.ensures ∙ c.if-not-is_receive_running.false);
  cost = omega arith;
}

pub returns-clause-sticks : goal.returns-clause-sticks
returns-clause-sticks g c = λ _.
    let all : c.loop-reading._reading ≡ MOST_READINGS = omega arith in
    (told_awaits c.law_prerequisites.ensures 4 14 c.args.port _ all _ _ c.loop-reading.invariant.known.told, search rules)

pub returns-clause-clears : goal.returns-clause-clears
returns-clause-clears g c =
    let has = c.loop-reading.invariant.known.has in
    record { stopped = has.stopped; fre_is_clear = has.fre; bases_are_kept = has.bases; sctl_and_notes_but_cmd_are_kept = has.same }
