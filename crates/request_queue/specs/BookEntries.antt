-- Unanswered requests of all ports, in order of acceptance (this project's own).
use Rattle.std.specs.Prelude.{ℕ, suc, min, [], ◌∷◌, ◌≡◌, ◌≢◌, ◌+◌, ◌^◌, ◌<◌, ◌≤◌, ◌==◌, Bool, true, false, not, ◌&&◌, if◌then◌else◌, List, map, filter, count_by, Option, Some, None, All, AllPairs, Contains, slice_index_or, length}
use Rattle.std.specs.List.{find}
use Rattle.ata_types.specs.declared.limits.TheConstants.{MOST_UNANSWERED_OF_A_CLIENT}
use Rattle.ata_types.specs.declared.Port.{Port}
use Rattle.ata_types.specs.declared.memory.TheConstants.{DRIVER_FRAMES}
use Rattle.ata_types.specs.declared.request.ClientId.{ClientId}
use Rattle.ata_types.specs.declared.request.Frame.{Frame}
use Rattle.ata_types.specs.declared.request.Op.TheVariants.{Flush}
use Rattle.ata_types.specs.declared.request.RequestId.{RequestId}
use Rattle.block_machine.specs.declared.due.QueueMode.{QueueMode}
use Rattle.block_machine.specs.declared.due.Unanswered.{Unanswered}
use Rattle.block_machine.specs.DueRequests.{due_of, is_due}
use Rattle.block_machine.specs.Rules.{IsAllowedCount, frame_count_for, is_same_grant_name}
use Rattle.dma_frames.specs.FrameTables.{OwnersAndLoans, owner_of, lent_to}
use Rattle.request_queue.specs.declared.PendingRequest.{PendingRequest}

-- an unanswered request, and the frames that are lent to it
pub record BookEntry : Type 0 where
  pub request : PendingRequest
  pub frames : List Frame

-- what of a request says which are due
abbrev pub as_unanswered : PendingRequest → Unanswered
as_unanswered r = record { id = r.id; port = r.port; op = r.op; range = r.range; issued = r.issued }

-- and the same of each request of a book
abbrev pub unanswered_of : List BookEntry → List Unanswered
unanswered_of entries = map (λ e. as_unanswered e.request) entries

-- the ids of the port's due requests, in order of acceptance
abbrev pub due_ids : QueueMode → Port → List Unanswered → List RequestId
due_ids mode port book = map (λ r. r.id) (due_of mode port book)

-- the id of the only request of the book, where it is due on the port
abbrev pub due_id_if_alone_in_book : QueueMode → Port → List Unanswered → Option RequestId
due_id_if_alone_in_book mode port [] = None
due_id_if_alone_in_book mode port (r ∷ []) = if r.port.0 == port.0 && is_due mode (r ∷ []) r then Some r.id else None
due_id_if_alone_in_book mode port (r ∷ _ ∷ _) = None

-- the request has this id
abbrev pub has_id : RequestId → BookEntry → Bool
has_id id e = e.request.id.0 == id.0

-- the request with this id, if it is unanswered
abbrev pub entry_with_id : RequestId → List BookEntry → Option BookEntry
entry_with_id id entries = find (has_id id) entries

-- a change of the request with this id alone
abbrev pub update_if_id : RequestId → (PendingRequest → PendingRequest) → BookEntry → BookEntry
update_if_id id change e = if has_id id e then record e { request = change e.request } else e

-- the requests but for the one with this id
abbrev pub without_entry : RequestId → List BookEntry → List BookEntry
without_entry id entries = filter (λ e. not (has_id id e)) entries

-- the request issued once more, of age 0
abbrev pub issued_request : PendingRequest → PendingRequest
issued_request r = record r { issued = true; issue_count = suc r.issue_count; age = 0 }

-- the request waiting again
abbrev pub request_with_issued_cleared : PendingRequest → PendingRequest
request_with_issued_cleared r = record r { issued = false }

-- The request a tick older, if it is issued on one of these ports. An age counts to three: what it would be beyond
-- nobody asks.
abbrev pub aged_request : (Port → Bool) → PendingRequest → PendingRequest
aged_request ports r = if r.issued && ports r.port then record r { age = min (suc r.age) 3 } else r

-- each request a tick older that is issued on one of these ports
abbrev pub aged_entries : (Port → Bool) → List BookEntry → List BookEntry
aged_entries ports entries = map (λ (e : BookEntry). record e { request = aged_request ports e.request }) entries

-- the request is marked, if it was accepted under this grant of the client: the grant is revoked
abbrev pub with_revoked_mark_if_under_grant : ClientId → ℕ → PendingRequest → PendingRequest
with_revoked_mark_if_under_grant client grant r = if is_same_grant_name client grant r.client r.grant
    then record r { revoked = true } else
    r

-- each request marked that was accepted under this grant of the client
abbrev pub with_requests_under_grant_revoked : ClientId → ℕ → List BookEntry → List BookEntry
with_requests_under_grant_revoked client grant entries =
    map (λ (e : BookEntry). record e { request = with_revoked_mark_if_under_grant client grant e.request }) entries

-- the ids of the requests that pass, in order of acceptance
abbrev pub ids_where : (PendingRequest → Bool) → List BookEntry → List RequestId
ids_where passes entries = map (λ e. e.request.id) (filter (λ e. passes e.request) entries)

-- the request is of this port
abbrev pub is_of_port : Port → PendingRequest → Bool
is_of_port port r = r.port.0 == port.0

-- the request waits, and was accepted under this grant of the client
abbrev pub waits_under : ClientId → ℕ → PendingRequest → Bool
waits_under client grant r = not r.issued && is_same_grant_name client grant r.client r.grant

-- how many of the requests are a client's
abbrev pub entry_count_of_client : List BookEntry → ℕ → ℕ
entry_count_of_client entries client = count_by (λ e. e.request.client.0 == client) entries

-- the request was accepted before the other
abbrev pub IsEarlier : BookEntry → BookEntry → Type 0
IsEarlier a b = a.request.id.0 < b.request.id.0

-- a request with this id is unanswered
abbrev pub IsUnanswered : RequestId → List BookEntry → Type 0
IsUnanswered id entries = (e : BookEntry) × Contains entries e × (e.request.id ≡ id)

-- and it waits
abbrev pub IsWaiting : RequestId → List BookEntry → Type 0
IsWaiting id entries = (e : BookEntry) × Contains entries e × (e.request.id ≡ id) × (e.request.issued ≡ false)

-- and it may go again: it is issued, and was fewer than four times
abbrev pub IsIssuedBelowLimit : RequestId → List BookEntry → Type 0
IsIssuedBelowLimit id entries = (e : BookEntry) × Contains entries e × (e.request.id ≡ id) × (e.request.issued ≡ true)
    × (e.request.issue_count < 4)

-- it was just accepted
abbrev pub IsNewlyAccepted : PendingRequest → Type 0
IsNewlyAccepted r = (r.issued ≡ false) × (r.issue_count ≡ 0) × (r.age ≡ 0) × (r.revoked ≡ false)

-- the port is one of these
abbrev pub is_among : List Bool → Port → Bool
is_among ports port = slice_index_or ports port.0 false

-- the request is an issued one of the port, and three ticks old
abbrev pub IsOverdueOn : Port → PendingRequest → Type 0
IsOverdueOn port r = (r.port ≡ port) × (r.issued ≡ true) × (3 ≤ r.age)

-- an issued request of the port is three ticks old
abbrev pub HasOverdueOn : Port → List BookEntry → Type 0
HasOverdueOn port entries = (e : BookEntry) × Contains entries e × IsOverdueOn port e.request

-- an issued request of some port is three ticks old
abbrev pub HasAnyOverdue : List BookEntry → Type 0
HasAnyOverdue entries = (port : Port) × HasOverdueOn port entries

-- A request was issued four times at most; and fewer times where it waits, so that it may be issued.
abbrev pub IssuesAreWithinLimit : PendingRequest → Type 0
IssuesAreWithinLimit r = (r.issue_count ≤ 4) × (r.issued ≡ false → r.issue_count < 4)

-- Requests as a book holds them: their ids rise, each is of a client 1 to 8, no client has more than 16, and each has
-- few issues. So there are 128 at most.
pub record BookIsWellFormed (entries : List BookEntry) : Type 0 where
  pub ids_rise : AllPairs IsEarlier entries
  pub clients_are_valid : All (λ e. (1 ≤ e.request.client.0) × (e.request.client.0 ≤ 8)) entries
  pub clients_are_within_limit : (client : ℕ) → entry_count_of_client entries client ≤ MOST_UNANSWERED_OF_A_CLIENT
  pub issues_are_within_limit : All (λ e. IssuesAreWithinLimit e.request) entries

-- An accepted request: of a client 1 to 8, of as many sectors as its operation may have, all of them below 2^48 (a
-- flush has none), with as many frames as it needs, each another one, all of them the client's own and lent to it.
pub record IsWellFormedEntry (table : OwnersAndLoans) (book_entry : BookEntry) : Type 0 where
  pub client_is_at_least_1 : 1 ≤ book_entry.request.client.0
  pub client_is_at_most_8 : book_entry.request.client.0 ≤ 8
  pub count_is_allowed : IsAllowedCount book_entry.request.op book_entry.request.range.count
  pub range_is_below_2_48_unless_flush : book_entry.request.op ≢ Flush
      → book_entry.request.range.first.0 + book_entry.request.range.count ≤ 2 ^ 48
  pub frame_count_is : length book_entry.frames ≡ frame_count_for book_entry.request.op book_entry.request.range.count
  pub frames_are_not_drivers : All (λ frame. DRIVER_FRAMES ≤ frame.0) book_entry.frames
  pub frames_are_own : All (λ frame. owner_of table frame ≡ Some book_entry.request.client) book_entry.frames
  pub frames_are_distinct : AllPairs (λ a b. a ≢ b) book_entry.frames
  pub frames_are_lent : All (λ frame. lent_to table frame ≡ Some book_entry.request.id) book_entry.frames

-- each of the entry's frames is lent to its request
abbrev pub FramesAreLentToIt : OwnersAndLoans → BookEntry → Type 0
FramesAreLentToIt table e = All (λ f. lent_to table f ≡ Some e.request.id) e.frames

-- what is lent to these requests is given back: their frames are lent to none, and nothing else changed
pub record GivesBack (old new : OwnersAndLoans) (entries : List BookEntry) : Type 0 where
  pub owners_are_unchanged : new.owners ≡ old.owners
  pub their_frames_are_free : (e : BookEntry) (f : Frame) → Contains entries e → Contains e.frames f → lent_to new f
      ≡ None
  pub other_loans_are_unchanged : (f : Frame) → ((e : BookEntry) → Contains entries e → Contains e.frames f → ⊥)
      → lent_to new f ≡ lent_to old f
