-- What a revocation of a client's grant makes of a server (this project's own).
use Rattle.std.specs.Prelude.{ℕ, ◌≡◌, List}
use Rattle.ata_types.specs.declared.request.ClientId.{ClientId}
use Rattle.ata_types.specs.declared.request.Outcome.TheVariants.{Revoked}
use Rattle.ata_types.specs.declared.request.Reply.{Reply}
use Rattle.block_machine.specs.Rules.{HasRow, without_row}
use Rattle.request_queue.specs.BookEntries.{with_requests_under_grant_revoked, waits_under}
use Rattle.request_queue.specs.Dispositions.{CompletesAllWith}
use Rattle.server_history.specs.ErrorHandling.{book_and_loans_of}
use Rattle.server_history.specs.ServerState.{ServerState}

-- the server without the client's grant of this number, and with each request marked that was accepted under it
abbrev pub with_grant_revoked : ClientId → ℕ → ServerState → ServerState
with_grant_revoked client number s = record s {
  grants = without_row client number s.grants;
  book = with_requests_under_grant_revoked client number s.book;
}

-- A client's grant was revoked: its row was there, and is gone. Requests that were accepted under it are marked, and
-- those of them that waited were answered Revoked. Nothing else changed.
pub record RevokesGrant (client : ClientId) (number : ℕ) (replies : List Reply) (old new : ServerState) : Type 0 where
  pub has_grant_row : HasRow client number old.grants
  pub waiting_are_told_revoked : CompletesAllWith (waits_under client number) Revoked replies
      (book_and_loans_of has_grant_row.0.port (with_grant_revoked client number old))
      (book_and_loans_of has_grant_row.0.port new)
  pub server_is : new ≡ record (with_grant_revoked client number old) {
    table = new.table;
    book = new.book;
  }
