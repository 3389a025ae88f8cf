-- A request is taken out of the store: out of the order, the slab, and the loans beside it.
use Rattle.std.proofs.Common.{◌≡◌, ℕ, ◌<◌, ◌+◌, List, length, get_or, set, arith, sym, ap, subst, ◌∙◌, Option, Some, None}
use Rattle.std.specs.List.{All, remove, slice_get}
use Rattle.std.proofs.lemmas.List.{length-map, get_or_default}
use Rattle.std.proofs.lemmas.List.Elements.{All-contains}
use Rattle.slab.specs.Slab.{Slab, get, slab_len, Updates}
use Rattle.ata_types.specs.declared.request.RequestId.{RequestId}
use Rattle.dma_frames.specs.Loan.{Lending}
use Rattle.dma_frames.specs.FrameTables.{OwnersAndLoans, lent_to}
use Rattle.request_queue.specs.BookEntries.{BookEntry, FramesAreLentToIt}
use Rattle.request_queue.specs.RequestSlab.{slab_entries, entry_at_key, KeyHasRequestAndLoan, SlabIsSound}
use Rattle.request_queue.specs.declared.PendingRequest.{PendingRequest}
use Rattle.request_queue.proofs.Changing.{there}
use Rattle.request_queue.proofs.Keeping.{entries_less, sound_less, entry_there, loan_of_request, key_in_place}

module _ (s s' : Slab PendingRequest) (loans : List (Option Lending)) (order : List ℕ) (es : List BookEntry) (view : slab_entries s loans order ≡ es) (sound : SlabIsSound s loans order)
    (place key : ℕ) (inside : place < length es) (its : key ≡ get_or order place key) (updates : Updates s s' key None) where
  within : place < length order
  within =
      let same = sym (length-map order (entry_at_key s loans)) ∙ ap length view in
      omega (arith, same, inside)

  is_key : (d : ℕ) → get_or order place d ≡ key
  is_key d = get_or_default order place d key within ∙ sym its

  pub rest_is : slab_entries s' (set loans key None) (remove order place) ≡ remove es place
  rest_is = entries_less s s' loans order key sound place within is_key updates ∙ ap (λ (xs : List BookEntry). remove xs place) view

  pub still_sound : slab_len s' + 1 ≡ slab_len s → s'.capacity ≡ s.capacity → SlabIsSound s' (set loans key None) (remove order place)
  still_sound = sound_less s s' loans order key sound place within is_key updates

  -- a loan is held for it
  pub its_place : (slot : Option Lending) → slot ≡ get_or loans key slot → (loan : Lending) × (slot ≡ Some loan)
  its_place slot at =
      let k = subst (KeyHasRequestAndLoan s loans) (is_key 0) (sound.keys_have_loans place 0 within) in
      (k.loan, at ∙ (get_or_default loans key slot None k.key_is_in_range ∙ k.has_loan))

  module _ (slot : Option Lending) (at : slot ≡ get_or loans key slot) (request : PendingRequest) (loan : Lending) (has_request : get s key ≡ Some request) (is : slot ≡ Some loan) where
    has_loan : get_or loans key None ≡ Some loan
    has_loan = get_or_default loans key None slot (key_in_place s s' loans order key sound place within is_key updates) ∙ (sym at ∙ is)

    pub taken_is : slice_get es place ≡ Some (record { request = request; frames = loan.frames })
    taken_is = subst (λ (xs : List BookEntry). slice_get xs place ≡ Some (record { request = request; frames = loan.frames })) view
        (entry_there s s' loans order key sound place within is_key updates request loan has_request has_loan)

    pub its_loan : loan.request ≡ request.id
    its_loan = loan_of_request s s' loans order key sound place within is_key updates request loan has_request has_loan

    -- what was lent to it may be given back
    pub may_go_back : (table : OwnersAndLoans) → All (FramesAreLentToIt table) es → All (λ f. lent_to table f ≡ Some loan.request) loan.frames
    may_go_back table stands =
        let e : BookEntry = record { request = request; frames = loan.frames } in
        subst (λ (id : RequestId). All (λ f. lent_to table f ≡ Some id) loan.frames) (sym its_loan)
        (All-contains (FramesAreLentToIt table) es e stands (there es place e taken_is))
