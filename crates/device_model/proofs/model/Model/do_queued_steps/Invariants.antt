use Rattle.std.proofs.Common.{◌≡◌, ◌-◌}
use Rattle.device_model.proofs.Queueing.{DoneSo, IsAt}
use Rattle.device_model.proofs.model.Model.do_queued_steps.Given as goal

abbrev pub invariant-loop-queued : goal.invariant-loop-queued
invariant-loop-queued g l = record {
  same : l.self.accesses ≡ l.initial.self.accesses;
  at : IsAt l.initial.self.accesses.saturating_count l.fn.self.queue.items l.self.queue.items l.place (l._queued-end - l._queued)
      (DoneSo g.S.SectorStore.size g.S.SectorStore.told g.S.SectorStore.failures l.initial.self l.self);
}
