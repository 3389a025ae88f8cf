-- How the requests are kept: in a slab, their loans beside it at their keys, and the keys in order of acceptance.
use Rattle.std.specs.Prelude.{◌≡◌, ◌≢◌, ℕ, ◌<◌, ◌≤◌, List, [], map, length, Option, Some, None, false, unwrap_or, slice_index_or, All, AllPairs, Contains}
use Rattle.slab.specs.Slab.{Slab, get, slab_len}
use Rattle.ata_types.specs.declared.request.Frame.{Frame}
use Rattle.ata_types.specs.declared.request.Op.TheVariants.{Read}
use Rattle.ata_types.specs.declared.limits.TheConstants.{MOST_UNANSWERED_OF_ALL_CLIENTS}
use Rattle.dma_frames.specs.Loan.{Lending}
use Rattle.block_machine.specs.declared.due.Unanswered.{Unanswered}
use Rattle.request_queue.specs.BookEntries.{BookEntry, as_unanswered, unanswered_of}
use Rattle.request_queue.specs.declared.PendingRequest.{PendingRequest}

-- what an empty key would show; `SlabIsSound` says that none is shown
abbrev pub blank_request : PendingRequest
blank_request = record {
  id = record { 0 = 0 };
  client = record { 0 = 0 };
  grant = 0;
  port = record { 0 = 0 };
  op = Read;
  range = record { first = record { 0 = 0 }; count = 0 };
  issued = false;
  issue_count = 0;
  age = 0;
  revoked = false;
}

-- the frames of a loan, if there is one
abbrev pub frames_of : Option Lending → List Frame
frames_of None = []
frames_of (Some loan) = loan.frames

-- what stands at a key
abbrev pub entry_at_key : Slab PendingRequest → List (Option Lending) → ℕ → BookEntry
entry_at_key requests loans key = record {
  request = unwrap_or (get requests key) blank_request;
  frames = frames_of (slice_index_or loans key None);
}

-- the requests in order of acceptance: what contracts see of a store
abbrev pub slab_entries : Slab PendingRequest → List (Option Lending) → List ℕ → List BookEntry
slab_entries requests loans order = map (entry_at_key requests loans) order

-- the key has a request, and beside it the loan of that request
pub record KeyHasRequestAndLoan (requests : Slab PendingRequest) (loans : List (Option Lending)) (key : ℕ) : Type 0
  where
    pub request : PendingRequest
    pub loan : Lending
    pub has_request : get requests key ≡ Some request
    pub has_loan : slice_index_or loans key None ≡ Some loan
    pub same_id : loan.request ≡ request.id
    pub key_is_in_range : key < length loans

-- each key in the order has its request and loan, and no other key has one
pub record SlabIsSound (requests : Slab PendingRequest) (loans : List (Option Lending)) (order : List ℕ) : Type 0 where
  pub capacity_is_enough : MOST_UNANSWERED_OF_ALL_CLIENTS ≤ requests.capacity
  pub one_loan_place_a_key : length loans ≡ requests.capacity
  pub store_lengths_agree : slab_len requests ≡ length order
  pub distinct : AllPairs (λ (a : ℕ) (b : ℕ). a ≢ b) order
  pub keys_have_loans : All (KeyHasRequestAndLoan requests loans) order
  pub other_keys_are_vacant : (key : ℕ) → (Contains order key → ⊥) → (get requests key ≡ None)
      × (slice_index_or loans key None ≡ None)

-- what of the requests at these places says whether they are due
abbrev pub unanswered_at : List BookEntry → List ℕ → List Unanswered
unanswered_at held places = map (λ place. slice_index_or (unanswered_of held) place (as_unanswered blank_request))
    places
