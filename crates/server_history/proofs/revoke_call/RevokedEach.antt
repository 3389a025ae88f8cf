-- The requests that wait under a grant that is revoked are told so, one after another.
use Rattle.std.proofs.Common.{ℕ, ◌≡◌, List, [], filter, None, refl, sym, ◌∙◌}
use Rattle.std.specs.List.{All}
use Rattle.ata_types.specs.declared.request.ClientId.{ClientId}
use Rattle.ata_types.specs.declared.request.Outcome.TheVariants.{Revoked}
use Rattle.ata_types.specs.declared.request.Reply.{Reply}
use Rattle.block_machine.specs.Rules.{HasRow}
use Rattle.dma_frames.specs.FrameTables.{SetsLoanOnly, OwnersAndLoans}
use Rattle.request_queue.specs.BookEntries.{BookEntry, IsWellFormedEntry, BookIsWellFormed, waits_under}
use Rattle.request_queue.specs.Dispositions.{BookAndLoans, AreResolved}
use Rattle.request_queue.specs.declared.PendingRequest.{PendingRequest}
use Rattle.request_queue.specs.declared.disposition.Disposition.{Disposition}
use Rattle.request_queue.specs.declared.disposition.Disposition.TheVariants.{Complete}
use Rattle.server_history.specs.Prerequisites.{PrerequisiteLaws}
use Rattle.server_history.specs.ErrorHandling.{book_and_loans_of}
use Rattle.server_history.specs.Revoking.{RevokesGrant, with_grant_revoked}
use Rattle.server_history.specs.ServerState.{ServerState}

-- each is told Revoked
abbrev pub ends_revoked : PendingRequest → Disposition
ends_revoked e = Complete Revoked

-- the requests that wait, and were accepted under this grant of the client
abbrev pub waiting_under : ClientId → ℕ → List BookEntry → List BookEntry
waiting_under client number book = filter (λ (e : BookEntry). waits_under client number e.request) book

-- the server without the grant, with this book and these loans
abbrev pub with_revoked : ClientId → ℕ → OwnersAndLoans → List BookEntry → ServerState → ServerState
with_revoked client number table book s = record (with_grant_revoked client number s) { table = table; book = book }

-- They met that fate one after another, and the table that this led to has the same lent as the server's.
pub record RevokesEach (client : ClientId) (number : ℕ) (replies : List Reply) (s new : ServerState) : Type 0 where
  pub has : HasRow client number s.grants
  pub now : BookAndLoans
  pub meets : AreResolved ends_revoked (waiting_under client number (with_grant_revoked client number s).book) replies (book_and_loans_of has.0.port (with_grant_revoked client number s)) now
  pub lends : SetsLoanOnly now.table new.table [] None
  pub server : new ≡ with_revoked client number new.table now.book s

abbrev pub revokes_each : PrerequisiteLaws → (s new : ServerState) (client : ClientId) (number : ℕ) (replies : List Reply) → BookIsWellFormed s.book → All (IsWellFormedEntry s.table) s.book → RevokesGrant client number replies s new → RevokesEach client number replies s new
revokes_each laws s new client number replies ordered accepted r =
    let old = with_grant_revoked client number s in
    let each = laws.completing_all_is_resolving (waits_under client number) Revoked (λ e. refl) (book_and_loans_of r.has_grant_row.0.port old) (laws.marking_keeps_book_well_formed s.book client number ordered) (laws.marking_keeps_entries_well_formed s.table s.book client number accepted) replies (book_and_loans_of r.has_grant_row.0.port new) r.waiting_are_told_revoked in
    record {
      has = r.has_grant_row;
      now = each.0;
      meets = each.1;
      lends = each.4;
      server = r.server_is ∙ (λ i. with_revoked client number new.table (sym each.2 i) s);
    }
