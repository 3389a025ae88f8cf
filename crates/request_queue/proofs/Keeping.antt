-- What a call on the slab, the loans and the order does to the entries.
use Rattle.std.proofs.Common.{◌≡◌, ◌≢◌, ℕ, ◌<◌, ◌+◌, suc, List, [], ◌∷◌, ◌++◌, length, get_or, set, map, take, drop, Option, Some, None, ap, sym, ◌∙◌, subst, inl, inr, arith, refl}
use Rattle.std.specs.Prelude.{unwrap_or}
use Rattle.std.specs.List.{All, Contains, remove, slice_get}
use Rattle.std.proofs.lemmas.Bool.{cases_eq, cases_lt}
use Rattle.std.proofs.lemmas.Grind.{in_remove}
use Rattle.std.proofs.lemmas.List.{get_or-set_same, get_or-set_other, length-set, map-append, take-map, drop-map, length_push}
use Rattle.std.proofs.lemmas.List.Edits.{length-remove, get_or-remove_below, get_or-remove_above}
use Rattle.std.proofs.lemmas.List.Elements.{All-push, All-head, All-tail, Contains-push, Contains-append_left}
use Rattle.std.proofs.lemmas.List.Quantifiers.{all_pairs_push, all_pairs_remove}
use Rattle.std.proofs.lemmas.Option.{slice_get-map, slice_get-get_or}
use Rattle.std.proofs.Common.{cond, is_some}
use Rattle.std.specs.Option.{IsSome}
use Rattle.std.proofs.lemmas.List.{same_lists, get_or-map, length-map}
use Rattle.std.proofs.lemmas.List.Sums.{sum_by-set}
use Rattle.std.proofs.lemmas.Option.{same_Some}
use Rattle.slab.proofs.SlabLemmas.{ContainsKey-within, Updates-with_value}
use Rattle.slab.specs.Slab.{Slab, get, slab_len, Updates, with_value}
use Rattle.dma_frames.specs.Loan.{Lending}
use Rattle.request_queue.specs.declared.PendingRequest.{PendingRequest}
use Rattle.request_queue.specs.BookEntries.{BookEntry}
use Rattle.request_queue.specs.RequestSlab.{blank_request, frames_of, entry_at_key, slab_entries, KeyHasRequestAndLoan, SlabIsSound}

none-some : {A : Type 0} {o : Option A} (x : A) → o ≡ None → o ≡ Some x → ⊥
none-some x p q = let r = sym p ∙ q in cc

-- entries under other keys stay
same_entries : (s s' : Slab PendingRequest) (loans loans' : List (Option Lending)) (key : ℕ)
    → ((k : ℕ) → k ≢ key → get s' k ≡ get s k) → ((k : ℕ) → k ≢ key → get_or loans' k None ≡ get_or loans k None)
    → (order : List ℕ) → All (λ k. k ≢ key) order → slab_entries s' loans' order ≡ slab_entries s loans order
same_entries s s' loans loans' key others beside [] ne = refl
same_entries s s' loans loans' key others beside (k ∷ ks) ne =
    let apart = All-head (λ (k : ℕ). k ≢ key) k ks ne in
    rw (others k apart, beside k apart) (ap (λ es. entry_at_key s loans k ∷ es)
    (same_entries s s' loans loans' key others beside ks (All-tail (λ (k : ℕ). k ≢ key) k ks ne)))

set_beside : (loans : List (Option Lending)) (key : ℕ) (slot : Option Lending) (k : ℕ) → k ≢ key → get_or (set loans key slot) k None ≡ get_or loans k None
set_beside loans key slot k ne = get_or-set_other loans key k slot None ne

module _ (s s' : Slab PendingRequest) (loans : List (Option Lending)) (order : List ℕ) (key : ℕ) (sound : SlabIsSound s loans order) where
  -- a key without a request isn't in the order
  pub fresh : get s key ≡ None → All (λ k. k ≢ key) order
  fresh none i d lt e = let h = sound.keys_have_loans i d lt in none-some h.request (subst (λ n. get s n ≡ None) (sym e) none) h.has_request

  -- what stays held
  still_held : (slot : Option Lending) → ((k : ℕ) → k ≢ key → get s' k ≡ get s k) → (k : ℕ) → k ≢ key → KeyHasRequestAndLoan s loans k → KeyHasRequestAndLoan s' (set loans key slot) k
  still_held slot others k ne h = record {
    request = h.request;
    loan = h.loan;
    has_request = others k ne ∙ h.has_request;
    has_loan = set_beside loans key slot k ne ∙ h.has_loan;
    same_id = h.same_id;
    key_is_in_range = rw length-set h.key_is_in_range;
  }

  module _ (r : PendingRequest) (loan : Lending) (vacant : get s key ≡ None) (updates : Updates s s' key (Some r)) (within : key < length loans) (id : loan.request ≡ r.id) where
    pub entries_more : slab_entries s' (set loans key (Some loan)) (order ++ key ∷ []) ≡ slab_entries s loans order ++ record { request = r; frames = loan.frames } ∷ []
    entries_more = map-append (entry_at_key s' (set loans key (Some loan))) order (key ∷ [])
        ∙ rw (same_entries s s' loans (set loans key (Some loan)) key updates.others (set_beside loans key (Some loan)) order (fresh vacant), updates.changed, get_or-set_same loans key (Some loan) None within) refl

    pub sound_more : slab_len s' ≡ slab_len s + 1 → s'.capacity ≡ s.capacity → SlabIsSound s' (set loans key (Some loan)) (order ++ key ∷ [])
    sound_more len capacity = record {
      capacity_is_enough = rw capacity sound.capacity_is_enough;
      one_loan_place_a_key = length-set loans key (Some loan) ∙ (sound.one_loan_place_a_key ∙ sym capacity);
      store_lengths_agree = rw (len, length_push) (omega (arith, sound.store_lengths_agree));
      distinct = all_pairs_push (λ (a : ℕ) (b : ℕ). a ≢ b) order key sound.distinct (fresh vacant);
      keys_have_loans = All-push (KeyHasRequestAndLoan s' (set loans key (Some loan))) order key
          (λ i d lt. still_held (Some loan) updates.others (get_or order i d) (fresh vacant i d lt) (sound.keys_have_loans i d lt))
          (record { request = r; loan = loan; has_request = updates.changed; has_loan = get_or-set_same loans key (Some loan) None within; same_id = id; key_is_in_range = rw length-set within });
      other_keys_are_vacant = λ k out.
          let ne : k ≢ key = λ e. out (subst (Contains (order ++ key ∷ [])) (sym e) (Contains-push order key)) in
          let old = sound.other_keys_are_vacant k (λ w. out (Contains-append_left order (key ∷ []) k w)) in
          (updates.others k ne ∙ old.0, set_beside loans key (Some loan) k ne ∙ old.1);
    }

  module _ (place : ℕ) (within : place < length order) (is_key : (d : ℕ) → get_or order place d ≡ key) (updates : Updates s s' key None) where
    -- the key stands at its place alone
    once : All (λ k. k ≢ key) (remove order place)
    once i d lt e = elim (cases_lt i place) [
      | inl low ↦ sound.distinct i place d low within (sym (get_or-remove_below order place d i low within) ∙ (e ∙ sym (is_key d)))
      | inr high ↦ sound.distinct place (i + 1) d (omega arith) (omega (arith, lt, shorter))
          (is_key d ∙ (sym e ∙ get_or-remove_above order place d i high within))
    ]
      where
        shorter : length (remove order place) + 1 ≡ length order
        shorter = length-remove order place within

    kept : All (KeyHasRequestAndLoan s loans) (remove order place)
    kept i d lt =
        let shorter = length-remove order place within in
        elim (cases_lt i place) [
          | inl low ↦ subst (KeyHasRequestAndLoan s loans) (sym (get_or-remove_below order place d i low within)) (sound.keys_have_loans i d (omega arith))
          | inr high ↦ subst (KeyHasRequestAndLoan s loans) (sym (get_or-remove_above order place d i high within)) (sound.keys_have_loans (i + 1) d (omega arith))
        ]

    pub entries_less : slab_entries s' (set loans key None) (remove order place) ≡ remove (slab_entries s loans order) place
    entries_less = same_entries s s' loans (set loans key None) key updates.others (set_beside loans key None) (remove order place) once
        ∙ (map-append (entry_at_key s loans) (take place order) (drop (suc place) order) ∙ rw (take-map, drop-map) refl)

    pub entry_there : (r : PendingRequest) (loan : Lending) → get s key ≡ Some r → get_or loans key None ≡ Some loan → slice_get (slab_entries s loans order) place ≡ Some (record { request = r; frames = loan.frames })
    entry_there r loan has_request has_loan = slice_get-map (entry_at_key s loans) order place
        ∙ rw (slice_get-get_or order place key within, is_key key, has_request, has_loan) refl

    pub sound_less : slab_len s' + 1 ≡ slab_len s → s'.capacity ≡ s.capacity → SlabIsSound s' (set loans key None) (remove order place)
    sound_less len capacity = record {
      capacity_is_enough = rw capacity sound.capacity_is_enough;
      one_loan_place_a_key = length-set loans key None ∙ (sound.one_loan_place_a_key ∙ sym capacity);
      store_lengths_agree = omega (arith, length-remove order place within, sound.store_lengths_agree, len);
      distinct = all_pairs_remove (λ (a : ℕ) (b : ℕ). a ≢ b) order place within sound.distinct;
      keys_have_loans = λ i d lt. still_held None updates.others (get_or (remove order place) i d) (once i d lt) (kept i d lt);
      other_keys_are_vacant = λ k out. elim (cases_eq k key) [
        | inl e ↦ rw e (updates.changed, get_or-set_same loans key None None (subst (KeyHasRequestAndLoan s loans) (is_key 0) (sound.keys_have_loans place 0 within)).key_is_in_range)
        | inr ne ↦ let old = sound.other_keys_are_vacant k (λ w. out (in_remove order place w.0 k within w.1 (sym w.2)
            (λ e. ne (sym w.2 ∙ (ap (λ n. get_or order n k) e ∙ is_key k)))).1) in
            (updates.others k ne ∙ old.0, set_beside loans key None k ne ∙ old.1)
      ];
    }

    held_there : KeyHasRequestAndLoan s loans key
    held_there = subst (KeyHasRequestAndLoan s loans) (is_key 0) (sound.keys_have_loans place 0 within)

    pub key_in_place : key < length loans
    key_in_place = held_there.key_is_in_range

    pub loan_of_request : (r : PendingRequest) (loan : Lending) → get s key ≡ Some r → get_or loans key None ≡ Some loan → loan.request ≡ r.id
    loan_of_request r loan has_request has_loan =
        ap (λ (l : Lending). l.request) (same_Some loan held_there.loan (sym has_loan ∙ held_there.has_loan))
        ∙ (held_there.same_id ∙ ap (λ (x : PendingRequest). x.id) (same_Some held_there.request r (sym held_there.has_request ∙ has_request)))

-- ---- what stands at a place

pub map-map : {A B C : Type 0} (g : B → C) (f : A → B) (xs : List A) → map g (map f xs) ≡ map (λ x. g (f x)) xs
map-map g f [] = refl
map-map g f (x ∷ xs) = ap (λ ys. g (f x) ∷ ys) (map-map g f xs)

module _ (s : Slab PendingRequest) (loans : List (Option Lending)) (order : List ℕ) (key place : ℕ) (within : place < length order) (is_key : (d : ℕ) → get_or order place d ≡ key) where
  pub stands_at : slice_get (slab_entries s loans order) place ≡ Some (entry_at_key s loans key)
  stands_at = slice_get-map (entry_at_key s loans) order place ∙ rw (slice_get-get_or order place key within, is_key key) refl

  pub request_there : (r : PendingRequest) → get s key ≡ Some r → slice_get (map (λ (e : BookEntry). e.request) (slab_entries s loans order)) place ≡ Some r
  request_there r there = slice_get-map (λ (e : BookEntry). e.request) (slab_entries s loans order) place ∙ rw (stands_at, there) refl

  pub both_there : (r : PendingRequest) → get s key ≡ Some r → (loan : Lending) → get_or loans key None ≡ Some loan
      → slice_get (slab_entries s loans order) place ≡ Some (record { request = r; frames = loan.frames })
  both_there r here loan there = stands_at ∙ rw (here, there) refl

  kept_there : SlabIsSound s loans order → KeyHasRequestAndLoan s loans key
  kept_there sound = subst (KeyHasRequestAndLoan s loans) (is_key 0) (sound.keys_have_loans place 0 within)

  pub key_there : SlabIsSound s loans order → key < length loans
  key_there sound = (kept_there sound).key_is_in_range

  -- the loan beside a request is that request's
  pub same_there : SlabIsSound s loans order → (r : PendingRequest) → get s key ≡ Some r → (loan : Lending) → get_or loans key None ≡ Some loan → loan.request ≡ r.id
  same_there sound r here loan there =
      let k = kept_there sound in
      ap (λ (l : Lending). l.request) (same_Some loan k.loan (sym there ∙ k.has_loan)) ∙ (k.same_id ∙ ap (λ (x : PendingRequest). x.id) (same_Some k.request r (sym k.has_request ∙ here)))

-- ---- another state of one request

-- a value that is replaced leaves as many
pub slab_len-with_value : (s : Slab PendingRequest) (key : ℕ) (old new : PendingRequest) → get s key ≡ Some old → slab_len (with_value s key new) ≡ slab_len s
slab_len-with_value s key old new there =
    let within = ContainsKey-within s key (subst IsSome (sym there) refl) in
    let sums = sum_by-set (λ (slot : Option PendingRequest). cond (is_some slot) 1 0) s.slots key (Some new) None within in
    let sums' = rw there at sums in
    omega (arith, sums')

module _ (s : Slab PendingRequest) (loans : List (Option Lending)) (order : List ℕ) (key place : ℕ) (old new : PendingRequest)
    (sound : SlabIsSound s loans order) (within : place < length order) (is_key : (d : ℕ) → get_or order place d ≡ key)
    (there : get s key ≡ Some old) where
  abbrev after : Slab PendingRequest
  after = with_value s key new

  updates : Updates s after key (Some new)
  updates = Updates-with_value s key new (subst IsSome (sym there) refl)

  pub sound_replaced : new.id ≡ old.id → SlabIsSound after loans order
  sound_replaced same = record {
    capacity_is_enough = sound.capacity_is_enough;
    one_loan_place_a_key = sound.one_loan_place_a_key;
    store_lengths_agree = slab_len-with_value s key old new there ∙ sound.store_lengths_agree;
    distinct = sound.distinct;
    keys_have_loans = λ i d lt. held_after (get_or order i d) (sound.keys_have_loans i d lt);
    other_keys_are_vacant = λ k out.
        let ne : k ≢ key = λ e. out (place, within, is_key k ∙ sym e) in
        let was = sound.other_keys_are_vacant k out in
        (updates.others k ne ∙ was.0, was.1);
  }
    where
      held_after : (k : ℕ) → KeyHasRequestAndLoan s loans k → KeyHasRequestAndLoan after loans k
      held_after k h = elim (cases_eq k key) [
        | inl e ↦ record {
          request = new;
          loan = h.loan;
          has_request = ap (λ n. get after n) e ∙ updates.changed;
          has_loan = h.has_loan;
          same_id = h.same_id ∙ (ap (λ (x : PendingRequest). x.id) (same_Some h.request old (sym h.has_request ∙ (ap (λ n. get s n) e ∙ there))) ∙ sym same);
          key_is_in_range = h.key_is_in_range;
        }
        | inr ne ↦ record {
          request = h.request;
          loan = h.loan;
          has_request = updates.others k ne ∙ h.has_request;
          has_loan = h.has_loan;
          same_id = h.same_id;
          key_is_in_range = h.key_is_in_range;
        }
      ]

  abbrev changed : BookEntry
  changed = record { request = new; frames = frames_of (get_or loans key None) }

  pub entries_replaced : slab_entries after loans order ≡ set (slab_entries s loans order) place changed
  entries_replaced = same_lists (map (entry_at_key after loans) order) (set (map (entry_at_key s loans) order) place changed)
      (length-map order (entry_at_key after loans) ∙ sym (length-set (map (entry_at_key s loans) order) place changed ∙ length-map order (entry_at_key s loans)))
      each
    where
      each : (k : ℕ) (d : BookEntry) → k < length (map (entry_at_key after loans) order) → get_or (map (entry_at_key after loans) order) k d ≡ get_or (set (map (entry_at_key s loans) order) place changed) k d
      each k d lt =
          let short : k < length order = omega (arith, lt, length-map order (entry_at_key after loans)) in
          elim (cases_eq k place) [
            | inl e ↦ rw e (get_or-map (entry_at_key after loans) order place key d within
                ∙ (rw (is_key key, updates.changed) refl ∙ sym (get_or-set_same (map (entry_at_key s loans) order) place changed d (omega (arith, within, length-map order (entry_at_key s loans))))))
            | inr ne ↦ get_or-map (entry_at_key after loans) order k key d short
                ∙ (ap (λ (o : Option PendingRequest). record { request = unwrap_or o blank_request; frames = frames_of (get_or loans (get_or order k key) None) }) (updates.others (get_or order k key) (apart k ne short))
                ∙ (sym (get_or-map (entry_at_key s loans) order k key d short) ∙ sym (get_or-set_other (map (entry_at_key s loans) order) place k changed d ne)))
          ]
        where
          apart : (k : ℕ) → k ≢ place → k < length order → get_or order k key ≢ key
          apart k ne short e = elim (cases_lt k place) [
            | inl low ↦ sound.distinct k place key low within (e ∙ sym (is_key key))
            | inr high ↦ sound.distinct place k key (omega arith) short (is_key key ∙ sym e)
          ]
