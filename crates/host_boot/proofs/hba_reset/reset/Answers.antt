use Rattle.ata_types.specs.declared.limits.TheConstants.{MOST_READINGS}
use Rattle.std.proofs.Common.{◌≡◌, sym, ◌∙◌, arith}
use Rattle.host_boot.proofs.Awaiting.{resetting_begins, resetting_ends, resetting_goes_on, resetting_sticks}
use Rattle.host_boot.proofs.hba_reset.reset.Goals as goal

pub loop-reading-init : goal.loop-reading-init
loop-reading-init g c = record {
  known = resetting_begins c.law_prerequisites.ensures _ _ c.write.ensures.does;
  cost = omega arith;
}

pub returns-then-not-is_resetting-clause-reset : goal.returns-then-not-is_resetting-clause-reset
returns-then-not-is_resetting-clause-reset g c = resetting_ends c.law_prerequisites.ensures _ _ _ _ _ c.loop-reading.invariant.known c.read.ensures.does (omega arith) (sym c.is_resetting.ensures ∙ c.if-not-is_resetting.true)

pub loop-reading-preserved : goal.loop-reading-preserved
loop-reading-preserved g c = record {
  known = resetting_goes_on c.law_prerequisites.ensures _ _ _ _ _ c.loop-reading.invariant.known c.read.ensures.does (sym c.is_resetting.ensures ∙ c.if-not-is_resetting.false);
  cost = omega arith;
}

pub returns-clause-stuck : goal.returns-clause-stuck
returns-clause-stuck g c =
    let all : c.loop-reading._reading ≡ MOST_READINGS = omega arith in
    resetting_sticks c.law_prerequisites.ensures _ _ _ all c.loop-reading.invariant.known
