use Rattle.ata_types.specs.declared.limits.TheConstants.{MOST_READINGS}
use Rattle.std.proofs.Common.{ℕ, ◌≡◌, sym, ◌∙◌, subst, arith, rules}
use Rattle.refinement.specs.Fragments.{AnySlotStates, IsSimulatedAlong}
use Rattle.disk_page.specs.PageRequests.{AreSlot0IssuedReadings, IsPxciOrSlot0PageMemoryAccess}
use Rattle.disk_page.proofs.Asking.{pending_first, pending_again, pending_over}
use Rattle.disk_page.proofs.wait.Goals as goal

pub loop-reading-init : goal.loop-reading-init
loop-reading-init g c = record {
  known = pending_first c.law_prerequisites.ensures c.args.port _ c.requires.may.adapter_is_on c.requires.may.has_port c.requires.may.no_comreset;
  cost = omega arith;
}

pub loop-reading-preserved : goal.loop-reading-preserved
loop-reading-preserved g c = record {
  known = pending_again c.law_prerequisites.ensures c.args.port _ c.loop-reading._reading c.read-issued.result _ _ c.loop-reading-test.true c.loop-reading.invariant.known c.read-issued.ensures.does (sym c.is_set.ensures ∙ c.if-not-is_set.false);
  cost = omega arith;
}

pub returns-then-not-is_set-clause-adapter_is_on : goal.returns-then-not-is_set-clause-adapter_is_on
returns-then-not-is_set-clause-adapter_is_on g c =
    (pending_over c.law_prerequisites.ensures c.args.port _ c.loop-reading._reading c.read-issued.result _ _ c.loop-reading.invariant.known c.read-issued.ensures.does (sym c.is_set.ensures ∙ c.if-not-is_set.true)).on

pub returns-then-not-is_set-clause-followed : goal.returns-then-not-is_set-clause-followed
returns-then-not-is_set-clause-followed g c =
    (pending_over c.law_prerequisites.ensures c.args.port _ c.loop-reading._reading c.read-issued.result _ _ c.loop-reading.invariant.known c.read-issued.ensures.does (sym c.is_set.ensures ∙ c.if-not-is_set.true)).followed

pub returns-then-not-is_set-clause-waiting : goal.returns-then-not-is_set-clause-waiting
returns-then-not-is_set-clause-waiting g c =
    (pending_over c.law_prerequisites.ensures c.args.port _ c.loop-reading._reading c.read-issued.result _ _ c.loop-reading.invariant.known c.read-issued.ensures.does (sym c.is_set.ensures ∙ c.if-not-is_set.true)).waiting

pub returns-then-not-is_set-clause-over : goal.returns-then-not-is_set-clause-over
returns-then-not-is_set-clause-over g c = λ _.
    (pending_over c.law_prerequisites.ensures c.args.port _ c.loop-reading._reading c.read-issued.result _ _ c.loop-reading.invariant.known c.read-issued.ensures.does (sym c.is_set.ensures ∙ c.if-not-is_set.true)).over

pub returns-clause-vain : goal.returns-clause-vain
returns-clause-vain g c = λ _.
    let all : c.loop-reading._reading ≡ MOST_READINGS = omega arith in
    (search rules, subst (λ (n : ℕ). IsSimulatedAlong (AreSlot0IssuedReadings c.args.port n) (IsPxciOrSlot0PageMemoryAccess c.args.port) AnySlotStates (g.A.Adapter.device c.args.adapter.now) (g.A.Adapter.device c.loop-reading.adapter)) all c.loop-reading.invariant.known.told)
