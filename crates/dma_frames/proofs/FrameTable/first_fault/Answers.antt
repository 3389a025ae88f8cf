use Rattle.dma_frames.proofs.FaultLemmas.{first_foreign_fault, first_twice_fault, first_lent_fault, no_fault}
use Rattle.dma_frames.proofs.FrameTable.first_fault.Goals as goal

pub returns-in-Some-clause-err : goal.returns-in-Some-clause-err
returns-in-Some-clause-err c = first_foreign_fault _ _ _ _ _ c.in-Some.ensures.place

pub returns-in-Some-first_twice-clause-err : goal.returns-in-Some-first_twice-clause-err
returns-in-Some-first_twice-clause-err c = first_twice_fault _ _ _ _ _ c.in_default.ensures.place c.in-Some-first_twice.ensures

pub returns-in-Some-first_lent-clause-err : goal.returns-in-Some-first_lent-clause-err
returns-in-Some-first_lent-clause-err c = first_lent_fault _ _ _ _ _ c.in_default.ensures.place c.in_default-first_twice.ensures c.in-Some-first_lent.ensures

pub returns-clause-ok : goal.returns-clause-ok
returns-clause-ok c = no_fault _ _ _ _ c.in_default.ensures.place c.in_default-first_twice.ensures c.in_default-first_lent.ensures

pub first_twice-requires : goal.first_twice-requires
first_twice-requires c = c.first_foreign.ensures.within c.in_default.is
