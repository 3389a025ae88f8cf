-- How many requests each client has, as a book notes it (this project's own).
use Rattle.std.specs.Prelude.{ℕ, ◌≡◌, ◌<◌, List, length, slice_index_or}
use Rattle.request_queue.specs.BookEntries.{BookEntry, entry_count_of_client}

-- Each client's count, by its number. The numbers of clients are 1 to 8, so there are nine.
pub record AreClientCounts (entries : List BookEntry) (counts : List ℕ) : Type 0 where
  pub nine_counts : length counts ≡ 9
  pub count_of_each : (client : ℕ) → client < 9 → slice_index_or counts client 0 ≡ entry_count_of_client entries client
