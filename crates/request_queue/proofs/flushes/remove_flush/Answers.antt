use Rattle.std.proofs.Common.{rules}
use Rattle.std.proofs.lemmas.Fn.{filter_same}
use Rattle.request_queue.proofs.flushes.remove_flush.Goals as goal

pub returns-clause-flush_is_removed : goal.returns-clause-flush_is_removed
returns-clause-flush_is_removed c = filter_same _ _ _ (λ x b f' k. search rules) _ _ c.retain.ensures.filtered
