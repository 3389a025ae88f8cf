-- The sectors of the unanswered requests, as they are indexed: a list for each of the four ports (this project's own).
use Rattle.std.specs.Prelude.{ℕ, ◌≡◌, ◌≢◌, ◌↔◌, ◌<◌, ◌%◌, ◌==◌, Bool, false, not, ◌&&◌, List, [], length, count_by, AllPairs, Contains, slice_index_or}
use Rattle.ata_types.specs.declared.Port.{Port}
use Rattle.block_machine.specs.declared.due.Unanswered.{Unanswered}
use Rattle.block_machine.specs.DueRequests.{is_flush, changes_sectors}
use Rattle.request_queue.specs.declared.ranges.RequestRange.{RequestRange}

-- the request as it is indexed
abbrev pub item_of : Unanswered → RequestRange
item_of r = record { id = r.id; port = r.port; range = r.range; changes_sectors = changes_sectors r.op }

-- The list that a port's requests are in. Each of the four ports has its own.
abbrev pub list_number_of_port : Port → ℕ
list_number_of_port port = port.0 % 4

-- the item is that of a request of the list's ports which has sectors, as all but flushes have
abbrev pub IsItemOfList : ℕ → List Unanswered → RequestRange → Type 0
IsItemOfList list book x = (r : Unanswered) × Contains book r × (list_number_of_port r.port ≡ list)
    × (is_flush r.op ≡ false)
    × (item_of r ≡ x)

-- the items are those of the requests of the list's ports that have sectors
abbrev pub AreItemsOfList : ℕ → List Unanswered → List RequestRange → Type 0
AreItemsOfList list book items = (x : RequestRange) → Contains items x ↔ IsItemOfList list book x

-- the request has sectors, and its port's list is this one
abbrev pub is_in_list : ℕ → Unanswered → Bool
is_in_list list r = (list_number_of_port r.port == list) && not (is_flush r.op)

-- The list has the items of those requests, as many as there are of them, and no two of one id.
pub record IsSectorListOf (list : ℕ) (book : List Unanswered) (items : List RequestRange) : Type 0 where
  pub has_their_sectors : AreItemsOfList list book items
  pub length_is_request_count : length items ≡ count_by (is_in_list list) book
  pub distinct : AllPairs (λ (a : RequestRange) (b : RequestRange). a.id ≢ b.id) items

-- the four lists have the sectors of all requests
pub record AreIndexed (book : List Unanswered) (lists : List (List RequestRange)) : Type 0 where
  pub four_lists : length lists ≡ 4
  pub each_is_list_of : (list : ℕ) → list < 4 → IsSectorListOf list book (slice_index_or lists list [])
