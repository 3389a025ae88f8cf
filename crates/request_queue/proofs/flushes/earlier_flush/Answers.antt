use Rattle.std.proofs.Common.{rules, ◌≡◌, ◌<◌, ℕ, false, get_or, length}
use Rattle.std.proofs.lemmas.List.Folds.{list_any_none}
use Rattle.request_queue.specs.declared.flushes.Flush.{Flush}
use Rattle.request_queue.specs.Flushes.{comes_after_flush}
use Rattle.request_queue.proofs.flushes.earlier_flush.Goals as goal

pub returns-in_err-flush-clause-none_is_earlier : goal.returns-in_err-flush-clause-none_is_earlier
returns-in_err-flush-clause-none_is_earlier c =
    let none : (k : ℕ) (d : Flush) → k < length c.args.flushes.now → comes_after_flush c.args.request.now (get_or c.args.flushes.now k d) ≡ false = λ k d lt. search rules in
    let all = list_any_none (comes_after_flush c.args.request.now) c.args.flushes.now none in
    search rules
