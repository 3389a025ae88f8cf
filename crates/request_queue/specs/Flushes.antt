-- The unanswered flushes, as they are listed (this project's own).
use Rattle.std.specs.Prelude.{Bool, ◌&&◌, ◌==◌, nat_lt, List, map, filter}
use Rattle.block_machine.specs.DueRequests.{is_flush}
use Rattle.block_machine.specs.declared.due.Unanswered.{Unanswered}
use Rattle.request_queue.specs.declared.flushes.Flush.{Flush}

-- a flush as it is listed
abbrev pub listed_flush : Unanswered → Flush
listed_flush r = record { id = r.id; port = r.port }

-- the flushes of the book, in order of acceptance
abbrev pub flushes_among : List Unanswered → List Flush
flushes_among book = map listed_flush (filter (λ r. is_flush r.op) book)

-- the flush was accepted before the request, on the same port
abbrev pub comes_after_flush : Unanswered → Flush → Bool
comes_after_flush r flush = flush.port.0 == r.port.0 && nat_lt flush.id.0 r.id.0
