use Rattle.device_model.specs.ModelState.{all_media_at}
use Rattle.device_model.proofs.Queueing.{begins_steps}
use Rattle.device_model.proofs.model.ModelAdapter.load.Goals as goal

pub load-requires : goal.load-requires
load-requires g c = (c.requires _ (begins_steps g.S.SectorStore.size g.S.SectorStore.told g.S.SectorStore.failures _ _ c.do_queued_steps.ensures)).inside

pub returns-clause-loads : goal.returns-clause-loads
returns-clause-loads g c =
    let m = c.do_queued_steps.new.self in
    record {
      steps = begins_steps g.S.SectorStore.size g.S.SectorStore.told g.S.SectorStore.failures _ _ c.do_queued_steps.ensures;
      shows = c.load.ensures.shows (all_media_at g.S.SectorStore.size g.S.SectorStore.told m);
    }
