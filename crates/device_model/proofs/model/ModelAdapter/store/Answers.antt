use Rattle.std.proofs.Common.{refl}
use Rattle.device_model.proofs.Queueing.{begins_steps}
use Rattle.device_model.proofs.model.ModelAdapter.store.Goals as goal

pub store-requires : goal.store-requires
store-requires g c = (c.requires _ (begins_steps g.S.SectorStore.size g.S.SectorStore.told g.S.SectorStore.failures _ _ c.do_queued_steps.ensures)).inside

pub returns-clause-stores : goal.returns-clause-stores
returns-clause-stores g c = record { at_access = _; steps = begins_steps g.S.SectorStore.size g.S.SectorStore.told g.S.SectorStore.failures _ _ c.do_queued_steps.ensures; effect = c.store.ensures.stored _ }

pub returns-clause-applies_effect : goal.returns-clause-applies_effect
returns-clause-applies_effect g c = record {
  after_begin = c.do_queued_steps.new.self;
  begins_access = c.do_queued_steps.ensures;
  effect_is = c.store.ensures.stored _;
  rest_is_kept = refl;
  starved_is_kept = c.store.ensures.starved;
}
