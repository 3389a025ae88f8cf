use Rattle.device_model.proofs.Doing.{answers_steps, did_it, left_it}
use Rattle.device_model.proofs.Posting.{did_may}
use Rattle.device_model.proofs.model.ModelStepped.step.Goals as goal

pub returns-clause-steps : goal.returns-clause-steps
returns-clause-steps g c = answers_steps g.S.SectorStore.size g.S.SectorStore.told g.S.SectorStore.failures c.args.s.now _ _ c.do_step.result c.do_step.ensures

pub returns-clause-refused : goal.returns-clause-refused
returns-clause-refused g c = λ e. (left_it g.S.SectorStore.size g.S.SectorStore.told g.S.SectorStore.failures c.args.s.now _ _ c.do_step.result c.do_step.ensures e).device_is_kept

pub returns-clause-asked : goal.returns-clause-asked
returns-clause-asked g c = λ e.
    did_may g.S.SectorStore.size g.S.SectorStore.told g.S.SectorStore.failures c.args.s.now _ _
    (did_it g.S.SectorStore.size g.S.SectorStore.told g.S.SectorStore.failures c.args.s.now _ _ c.do_step.result c.do_step.ensures e)
