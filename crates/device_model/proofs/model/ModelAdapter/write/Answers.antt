use Rattle.std.proofs.Common.{refl}
use Rattle.device_model.proofs.Ports.{has_port_write}
use Rattle.device_model.proofs.Queueing.{begins_steps}
use Rattle.device_model.proofs.model.ModelAdapter.write.Goals as goal

pub apply_register_write-requires : goal.apply_register_write-requires
apply_register_write-requires g c = has_port_write c.args.r c.args.v _ (c.requires _ (begins_steps g.S.SectorStore.size g.S.SectorStore.told g.S.SectorStore.failures _ _ c.do_queued_steps.ensures))

pub returns-clause-writes : goal.returns-clause-writes
returns-clause-writes g c = record { at_access = _; steps = begins_steps g.S.SectorStore.size g.S.SectorStore.told g.S.SectorStore.failures _ _ c.do_queued_steps.ensures; effect = c.apply_register_write.ensures.written _ }

pub returns-clause-applies_effect : goal.returns-clause-applies_effect
returns-clause-applies_effect g c = record {
  after_begin = c.do_queued_steps.new.self;
  begins_access = c.do_queued_steps.ensures;
  effect_is = c.apply_register_write.ensures.written _;
  rest_is_kept = refl;
  starved_is_kept = c.apply_register_write.ensures.starved;
}
