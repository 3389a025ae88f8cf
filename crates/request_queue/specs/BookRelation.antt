-- The block machine's book, as the book holds it (this project's own).
use Rattle.std.specs.Prelude.{◌≡◌, List, min}
use Rattle.std.specs.List.{AllZip}
use Rattle.ata_types.specs.declared.range.Range.{Range}
use Rattle.block_machine.specs.State as machine
use Rattle.request_queue.specs.BookEntries.{BookEntry}

-- the sectors that the machine's request asks for
abbrev pub range_of : machine.Accepted → Range
range_of r = record { first = r.asked.first; count = r.asked.count }

-- The machine's request is this one, and as far. (The machine's age has no bound, and the book's counts to three.)
pub record EntryRelation (e : BookEntry) (p : machine.Pending) : Type 0 where
  pub id : p.request.id ≡ e.request.id
  pub client : p.request.asked.client ≡ e.request.client
  pub grant : p.request.asked.grant ≡ e.request.grant
  pub port : p.request.port ≡ e.request.port
  pub op : p.request.asked.op ≡ e.request.op
  pub range : range_of p.request ≡ e.request.range
  pub frames : p.request.asked.frames.items ≡ e.frames
  pub issued : p.issued ≡ e.request.issued
  pub issues : p.issue_count ≡ e.request.issue_count
  pub age : min p.age 3 ≡ e.request.age

-- the machine's book has the same requests, as far, in the same order
abbrev pub BookRelation : List BookEntry → List machine.Pending → Type 0
BookRelation entries pending = AllZip EntryRelation entries pending
