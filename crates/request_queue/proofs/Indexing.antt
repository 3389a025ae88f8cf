-- What the book's changes make of the lists of sectors.
use Rattle.std.proofs.Common.{◌≡◌, ◌≢◌, ◌↔◌, ℕ, suc, ◌+◌, ◌<◌, ◌≤◌, ◌==◌, ◌&&◌, ◌⊎◌, inl, inr, Bool, true, false, not, cond, List, [], ◌∷◌, ◌++◌, map, length, get_or, set, take, drop, Some, refl, sym, ap, ◌∙◌, subst, arith, eqb-true, eq-eqb}
use Rattle.std.specs.List.{All, AllPairs, Contains, count_by, insert, remove, slice_get}
use Rattle.std.specs.List.Sorted.{IsPermutation}
use Rattle.std.proofs.lemmas.Bool.{and_parts, and_from, both_ways, cases_eq, cases_lt, cond-true, cond-false, not-true, false_from_ne_true}
use Rattle.std.proofs.Math.Seq.{drop-cons}
use Rattle.std.proofs.lemmas.List.{take-append-drop, map-append, take-map, drop-map, length-set, get_or-set_same, get_or-set_other, get_or_default}
use Rattle.std.proofs.lemmas.List.Edits.{length-insert, length-remove}
use Rattle.std.proofs.lemmas.List.Elements.{Contains-append_left, Contains-append_right, Contains-append_cases, All-map}
use Rattle.std.proofs.lemmas.List.Quantifiers.{all_pairs_remove}
use Rattle.std.proofs.lemmas.List.Kept.{AllPairs-cons}
use Rattle.std.proofs.lemmas.List.Sorted.{IsPermutation-sym, IsPermutation-insert, IsPermutation-remove, Contains-permutation}
use Rattle.std.proofs.lemmas.Option.{slice_get_within, get_or_from_slice_get}
use Rattle.ata_types.specs.declared.Port.{Port}
use Rattle.ata_types.specs.declared.request.RequestId.{RequestId}
use Rattle.ata_types.specs.declared.limits.TheConstants.{MOST_UNANSWERED_OF_ALL_CLIENTS}
use Rattle.block_machine.specs.declared.due.Unanswered.{Unanswered}
use Rattle.block_machine.specs.DueRequests.{IsInOrder, is_flush}
use Rattle.request_queue.specs.declared.ranges.RequestRange.{RequestRange}
use Rattle.block_machine.specs.DueRequests.{mark_issued, mark_waiting}
use Rattle.request_queue.specs.BookEntries.{BookEntry, as_unanswered, unanswered_of, update_if_id, issued_request, request_with_issued_cleared}
use Rattle.request_queue.proofs.Working.{after_issue, after_requeue}
use Rattle.request_queue.proofs.PermutedPairs.{permuted_pairs}
use Rattle.request_queue.specs.Sectors.{AreIndexed, IsSectorListOf, is_in_list, item_of, list_number_of_port}
use Rattle.request_queue.proofs.Members.{contains_none, contains_here, contains_there, contains_cases, count_append, count_cons, count_map, into_map, map_in}

-- ---- one more, and one less, of elements with ids

module _ {X : Type 0} (id : X → RequestId) where
  abbrev pub AreDistinct : List X → Type 0
  AreDistinct xs = AllPairs (λ a b. id a ≢ id b) xs

  apart_back : (a b : X) → id a ≢ id b → id b ≢ id a
  apart_back a b apart e = apart (sym e)

  pub in_insert : (xs : List X) (place : ℕ) (y x : X) → Contains (insert xs place y) x ↔ ((x ≡ y) ⊎ Contains xs x)
  in_insert xs place y x = (
    λ there. contains_cases y xs x (Contains-permutation (insert xs place y) (y ∷ xs) x (IsPermutation-sym (y ∷ xs) (insert xs place y) (IsPermutation-insert xs place y)) there),
    λ h. Contains-permutation (y ∷ xs) (insert xs place y) x (IsPermutation-insert xs place y) (elim h [ inl e ↦ contains_here y xs x e | inr there ↦ contains_there y xs x there ]),
  )

  pub distinct_insert : (xs : List X) (place : ℕ) (y : X) → AreDistinct xs → All (λ x. id x ≢ id y) xs → AreDistinct (insert xs place y)
  distinct_insert xs place y distinct fresh =
      permuted_pairs (λ a b. id a ≢ id b) apart_back (y ∷ xs) (insert xs place y) (IsPermutation-insert xs place y)
      (AllPairs-cons (λ a b. id a ≢ id b) y xs (λ k d lt e. fresh k d lt (sym e)) distinct)

  module _ (xs : List X) (place : ℕ) (x : X) (update_if_id : slice_get xs place ≡ Some x) (distinct : AreDistinct xs) where
    moved : IsPermutation xs (x ∷ remove xs place)
    moved = IsPermutation-remove xs place x (slice_get_within xs place x update_if_id) (sym (get_or_from_slice_get xs place x x update_if_id))

    all_apart : AreDistinct (x ∷ remove xs place)
    all_apart = permuted_pairs (λ a b. id a ≢ id b) apart_back xs (x ∷ remove xs place) moved distinct

    pub in_remove : (y : X) → Contains (remove xs place) y ↔ (Contains xs y × (id y ≢ id x))
    in_remove y = (
      λ there. (
        Contains-permutation (x ∷ remove xs place) xs y (IsPermutation-sym xs (x ∷ remove xs place) moved) (contains_there x (remove xs place) y there),
        λ e. all_apart 0 (suc there.0) y (omega arith) (let lt = there.1 in omega (arith, lt)) (sym (ap id there.2 ∙ e)),
      ),
      λ h. elim (contains_cases x (remove xs place) y (Contains-permutation xs (x ∷ remove xs place) y moved h.0)) [ inl e ↦ absurd (h.1 (ap id e)) | inr there ↦ there ],
    )

-- requests in order have distinct ids
pub ids_apart : (book : List Unanswered) → IsInOrder book → AreDistinct (λ r. r.id) book
ids_apart book ordered i j d less lt e = let up = ordered i j d less lt in let same = ap (λ (x : RequestId). x.0) e in omega (arith, up, same)

count_removed : (p : Unanswered → Bool) (xs : List Unanswered) (i : ℕ) (x : Unanswered) → slice_get xs i ≡ Some x → count_by p xs ≡ count_by p (remove xs i) + cond (p x) 1 0
count_removed p xs i x update_if_id =
    let whole = ap (count_by p) (sym (take-append-drop i xs)) in
    let front = count_append p (take i xs) (drop i xs) in
    let here = ap (count_by p) (drop-cons xs i x (slice_get_within xs i x update_if_id)) in
    let head = count_cons p (get_or xs i x) (drop (suc i) xs) in
    let same : ◌≡◌ {A = ℕ} (cond (p (get_or xs i x)) 1 0) (cond (p x) 1 0) = ap (λ (y : Unanswered). cond {A = ℕ} (p y) 1 0) (get_or_from_slice_get xs i x x update_if_id) in
    let rest = count_append p (take i xs) (drop (suc i) xs) in
    omega (arith, whole, front, here, head, same, rest)

in_list : (list : ℕ) (r : Unanswered) → list_number_of_port r.port ≡ list → is_flush r.op ≡ false → is_in_list list r ≡ true
in_list list r here has = and_from (list_number_of_port r.port == list) (not (is_flush r.op)) (eq-eqb (list_number_of_port r.port) list here) (ap not has)

out_of_list : (list : ℕ) (r : Unanswered) → (list ≡ list_number_of_port r.port → ⊥) → is_in_list list r ≡ false
out_of_list list r other = false_from_ne_true (is_in_list list r) (λ is. other (sym (eqb-true (list_number_of_port r.port) list (and_parts (list_number_of_port r.port == list) (not (is_flush r.op)) is).0)))

flush_in_none : (list : ℕ) (r : Unanswered) → is_flush r.op ≡ true → is_in_list list r ≡ false
flush_in_none list r flush = false_from_ne_true (is_in_list list r) (λ is. both_ways _ (not-true (is_flush r.op) (and_parts (list_number_of_port r.port == list) (not (is_flush r.op)) is).1) flush)

set_indexed : (book : List Unanswered) (lists : List (List RequestRange)) (i : ℕ) (items : List RequestRange) → i < 4 → length lists ≡ 4 → IsSectorListOf i book items
    → ((list : ℕ) → list < 4 → (list ≡ i → ⊥) → IsSectorListOf list book (get_or lists list [])) → AreIndexed book (set lists i items)
set_indexed book lists i items lt four own others = record {
  four_lists = length-set lists i items ∙ four;
  each_is_list_of = λ list low. elim (cases_eq list i) [
    | inl e ↦ subst (λ (n : ℕ). IsSectorListOf n book (get_or (set lists i items) n [])) (sym e) (subst (IsSectorListOf i book) (sym (get_or-set_same lists i items [] (omega (arith, four, lt)))) own)
    | inr not ↦ subst (IsSectorListOf list book) (sym (get_or-set_other lists i list items [] not)) (others list low not)
  ];
}

-- ---- accepted: a list that the request isn't in, and its own

module _ (list : ℕ) (book : List Unanswered) (items : List RequestRange) (is : IsSectorListOf list book items) (r : Unanswered) where
  pub other_accepted : is_in_list list r ≡ false → IsSectorListOf list (book ++ r ∷ []) items
  other_accepted out = record {
    has_their_sectors = λ x. (
      λ there. let h = (is.has_their_sectors x).0 there in (h.0, Contains-append_left book (r ∷ []) h.0 h.1, h.2, h.3, h.4),
      λ h. (is.has_their_sectors x).1 (h.0, here h.0 h.1 h.2 h.3, h.2, h.3, h.4),
    );
    length_is_request_count = let n = is.length_is_request_count in let c = count_append (is_in_list list) book (r ∷ []) in let one = count_cons (is_in_list list) r [] in
        let none : ◌≡◌ {A = ℕ} (cond (is_in_list list r) 1 0) 0 = cond-false (is_in_list list r) 1 0 out in omega (arith, n, c, one, none);
    distinct = is.distinct;
  }
    where
      here : (o : Unanswered) → Contains (book ++ r ∷ []) o → list_number_of_port o.port ≡ list → is_flush o.op ≡ false → Contains book o
      here o there update_if_id has = elim (Contains-append_cases book (r ∷ []) o there) [
        | inl h ↦ h
        | inr h ↦ elim (contains_cases r [] o h) [
          | inl e ↦ absurd (both_ways _ out (ap (is_in_list list) (sym e) ∙ in_list list o update_if_id has))
          | inr none ↦ absurd (contains_none o none)
        ]
      ]

  pub fresh_item : All (λ o. o.id.0 < r.id.0) book → All (λ x. x.id ≢ (item_of r).id) items
  fresh_item newest k d lt e =
      let x = get_or items k d in
      let h = (is.has_their_sectors x).0 (k, lt, get_or_default items k x d lt) in
      let less = subst (λ (o : Unanswered). o.id.0 < r.id.0) h.1.2 (newest h.1.0 h.0 h.1.1) in
      let same = ap (λ (i : RequestRange). i.id.0) h.4 in
      let equal = ap (λ (i : RequestId). i.0) e in
      omega (arith, less, same, equal)

  pub own_accepted : list_number_of_port r.port ≡ list → is_flush r.op ≡ false → All (λ o. o.id.0 < r.id.0) book → (place : ℕ) → place ≤ length items
      → IsSectorListOf list (book ++ r ∷ []) (insert items place (item_of r))
  own_accepted update_if_id has newest place within = record {
    has_their_sectors = λ x. (
      λ there. elim ((in_insert (λ (i : RequestRange). i.id) items place (item_of r) x).0 there) [
        | inl e ↦ (r, Contains-append_right book (r ∷ []) r (contains_here r [] r refl), update_if_id, has, sym e)
        | inr old ↦ let h = (is.has_their_sectors x).0 old in (h.0, Contains-append_left book (r ∷ []) h.0 h.1, h.2, h.3, h.4)
      ],
      λ h. (in_insert (λ (i : RequestRange). i.id) items place (item_of r) x).1 (elim (Contains-append_cases book (r ∷ []) h.0 h.1) [
        | inl old ↦ inr ((is.has_their_sectors x).1 (h.0, old, h.2, h.3, h.4))
        | inr new ↦ elim (contains_cases r [] h.0 new) [
          | inl e ↦ inl (sym h.4 ∙ ap item_of e)
          | inr none ↦ absurd (contains_none h.0 none)
        ]
      ]),
    );
    length_is_request_count = let n = is.length_is_request_count in let c = count_append (is_in_list list) book (r ∷ []) in let one = count_cons (is_in_list list) r [] in
        let some : ◌≡◌ {A = ℕ} (cond (is_in_list list r) 1 0) 1 = cond-true (is_in_list list r) 1 0 (in_list list r update_if_id has) in let l = length-insert items place (item_of r) within in
        omega (arith, n, c, one, some, l);
    distinct = distinct_insert (λ (i : RequestRange). i.id) items place (item_of r) is.distinct (fresh_item newest);
  }

-- ---- answered

module _ (list : ℕ) (book : List Unanswered) (items : List RequestRange) (is : IsSectorListOf list book items) (ordered : IsInOrder book) (i : ℕ) (r : Unanswered) (update_if_id : slice_get book i ≡ Some r) where
  left : (o : Unanswered) → Contains (remove book i) o ↔ (Contains book o × (o.id ≢ r.id))
  left o = in_remove (λ (u : Unanswered). u.id) book i r update_if_id (ids_apart book ordered) o

  same_request : (o : Unanswered) → Contains book o → o.id ≡ r.id → o ≡ r
  same_request o there e = elim (cases_eq there.0 i) [
    | inl same ↦ sym there.2 ∙ (ap (λ (k : ℕ). get_or book k o) same ∙ get_or_from_slice_get book i r o update_if_id)
    | inr not ↦ absurd (elim (cases_lt there.0 i) [
      | inl low ↦ ids_apart book ordered there.0 i o low (slice_get_within book i r update_if_id) (ap (λ (u : Unanswered). u.id) there.2 ∙ (e ∙ ap (λ (u : Unanswered). u.id) (sym (get_or_from_slice_get book i r o update_if_id))))
      | inr high ↦ ids_apart book ordered i there.0 o (omega arith) there.1 (ap (λ (u : Unanswered). u.id) (get_or_from_slice_get book i r o update_if_id) ∙ (sym e ∙ ap (λ (u : Unanswered). u.id) (sym there.2)))
    ])
  ]

  pub other_answered : is_in_list list r ≡ false → IsSectorListOf list (remove book i) items
  other_answered out = record {
    has_their_sectors = λ x. (
      λ there. let h = (is.has_their_sectors x).0 there in
          (h.0, (left h.0).1 (h.1, λ e. both_ways _ out (ap (is_in_list list) (sym (same_request h.0 h.1 e)) ∙ in_list list h.0 h.2 h.3)), h.2, h.3, h.4),
      λ h. (is.has_their_sectors x).1 (h.0, ((left h.0).0 h.1).0, h.2, h.3, h.4),
    );
    length_is_request_count = let n = is.length_is_request_count in let c = count_removed (is_in_list list) book i r update_if_id in
        let none : ◌≡◌ {A = ℕ} (cond (is_in_list list r) 1 0) 0 = cond-false (is_in_list list r) 1 0 out in omega (arith, n, c, none);
    distinct = is.distinct;
  }

  pub own_answered : list_number_of_port r.port ≡ list → is_flush r.op ≡ false → (place : ℕ) → slice_get items place ≡ Some (item_of r) → IsSectorListOf list (remove book i) (remove items place)
  own_answered here has place found = record {
    has_their_sectors = λ x. (
      λ there. let two = (in_remove (λ (y : RequestRange). y.id) items place (item_of r) found is.distinct x).0 there in
          let h = (is.has_their_sectors x).0 two.0 in
          (h.0, (left h.0).1 (h.1, λ e. two.1 (ap (λ (y : RequestRange). y.id) (sym h.4) ∙ e)), h.2, h.3, h.4),
      λ h. let two = (left h.0).0 h.1 in
          (in_remove (λ (y : RequestRange). y.id) items place (item_of r) found is.distinct x).1
          ((is.has_their_sectors x).1 (h.0, two.0, h.2, h.3, h.4), λ e. two.1 (ap (λ (y : RequestRange). y.id) h.4 ∙ e)),
    );
    length_is_request_count = let n = is.length_is_request_count in let c = count_removed (is_in_list list) book i r update_if_id in
        let some : ◌≡◌ {A = ℕ} (cond (is_in_list list r) 1 0) 1 = cond-true (is_in_list list r) 1 0 (in_list list r here has) in
        let l = length-remove items place (slice_get_within items place (item_of r) found) in omega (arith, n, c, some, l);
    distinct = distinct_remove;
  }
    where
      distinct_remove : AllPairs (λ (a : RequestRange) (b : RequestRange). a.id ≢ b.id) (remove items place)
      distinct_remove = all_pairs_remove (λ (a : RequestRange) (b : RequestRange). a.id ≢ b.id) items place (slice_get_within items place (item_of r) found) is.distinct

-- ---- changed, but neither sectors nor port nor operation

pub changed_list : (list : ℕ) (book : List Unanswered) (items : List RequestRange) (g : Unanswered → Unanswered) → ((r : Unanswered) → item_of (g r) ≡ item_of r) → ((r : Unanswered) → (g r).op ≡ r.op)
    → ((r : Unanswered) → (g r).port ≡ r.port) → IsSectorListOf list book items → IsSectorListOf list (map g book) items
changed_list list book items g same_item same_op same_port is = record {
  has_their_sectors = λ x. (
    λ there. let h = (is.has_their_sectors x).0 there in (g h.0, into_map g book h.0 h.1, ap list_number_of_port (same_port h.0) ∙ h.2, ap is_flush (same_op h.0) ∙ h.3, same_item h.0 ∙ h.4),
    λ h. let u = map_in g book h.0 h.1 in
        (is.has_their_sectors x).1 (u.0, u.1, sym (ap list_number_of_port (ap (λ (o : Unanswered). o.port) u.2 ∙ same_port u.0)) ∙ h.2, sym (ap is_flush (ap (λ (o : Unanswered). o.op) u.2 ∙ same_op u.0)) ∙ h.3, sym (ap item_of u.2 ∙ same_item u.0) ∙ h.4),
  );
  length_is_request_count = is.length_is_request_count ∙ sym (count_map (is_in_list list) (is_in_list list) g book
      (λ y _. ap (λ (p : Port). (list_number_of_port p == list) && not (is_flush (g y).op)) (same_port y) ∙ ap (λ (o : Rattle.ata_types.specs.declared.request.Op.Op). (list_number_of_port y.port == list) && not (is_flush o)) (same_op y)));
  distinct = is.distinct;
}

-- ---- the four lists

pub in_four : (port : Port) → list_number_of_port port < 4
in_four port = omega arith

module _ (book : List Unanswered) (lists : List (List RequestRange)) (is : AreIndexed book lists) (r : Unanswered) where
  own_list : IsSectorListOf (list_number_of_port r.port) book (get_or lists (list_number_of_port r.port) [])
  own_list = is.each_is_list_of (list_number_of_port r.port) (in_four r.port)

  pub flush_accepted : is_flush r.op ≡ true → AreIndexed (book ++ r ∷ []) lists
  flush_accepted flush = record { four_lists = is.four_lists; each_is_list_of = λ list lt. other_accepted list book (get_or lists list []) (is.each_is_list_of list lt) r (flush_in_none list r flush) }

  pub accepted : is_flush r.op ≡ false → All (λ o. o.id.0 < r.id.0) book → (place : ℕ) → place ≤ length (get_or lists (list_number_of_port r.port) [])
      → AreIndexed (book ++ r ∷ []) (set lists (list_number_of_port r.port) (insert (get_or lists (list_number_of_port r.port) []) place (item_of r)))
  accepted has newest place within =
      set_indexed (book ++ r ∷ []) lists (list_number_of_port r.port) (insert (get_or lists (list_number_of_port r.port) []) place (item_of r)) (in_four r.port) is.four_lists
      (own_accepted (list_number_of_port r.port) book (get_or lists (list_number_of_port r.port) []) own_list r refl has newest place within)
      (λ list lt other. other_accepted list book (get_or lists list []) (is.each_is_list_of list lt) r (out_of_list list r other))

  pub room_left : length book < MOST_UNANSWERED_OF_ALL_CLIENTS → length (get_or lists (list_number_of_port r.port) []) < MOST_UNANSWERED_OF_ALL_CLIENTS
  room_left few = let n = own_list.length_is_request_count in let c = count_below (is_in_list (list_number_of_port r.port)) book in omega (arith, n, c, few)
    where
      count_below : (p : Unanswered → Bool) (xs : List Unanswered) → count_by p xs ≤ length xs
      count_below p [] = omega arith
      count_below p (x ∷ xs) = let rest = count_below p xs in let h = count_cons p x xs in let one : cond {A = ℕ} (p x) 1 0 ≤ 1 = at_most (p x) in omega (arith, rest, h, one)
        where
          at_most : (b : Bool) → cond {A = ℕ} b 1 0 ≤ 1
          at_most true = omega arith
          at_most false = omega arith

  pub items_fresh : All (λ o. o.id.0 < r.id.0) book → All (λ x. x.id ≢ (item_of r).id) (get_or lists (list_number_of_port r.port) [])
  items_fresh newest = fresh_item (list_number_of_port r.port) book (get_or lists (list_number_of_port r.port) []) own_list r newest

  module _ (ordered : IsInOrder book) (i : ℕ) (update_if_id : slice_get book i ≡ Some r) where
    pub flush_answered : is_flush r.op ≡ true → AreIndexed (remove book i) lists
    flush_answered flush = record { four_lists = is.four_lists; each_is_list_of = λ list lt. other_answered list book (get_or lists list []) (is.each_is_list_of list lt) ordered i r update_if_id (flush_in_none list r flush) }

    pub answered : is_flush r.op ≡ false → (place : ℕ) → slice_get (get_or lists (list_number_of_port r.port) []) place ≡ Some (item_of r)
        → AreIndexed (remove book i) (set lists (list_number_of_port r.port) (remove (get_or lists (list_number_of_port r.port) []) place))
    answered has place found =
        set_indexed (remove book i) lists (list_number_of_port r.port) (remove (get_or lists (list_number_of_port r.port) []) place) (in_four r.port) is.four_lists
        (own_answered (list_number_of_port r.port) book (get_or lists (list_number_of_port r.port) []) own_list ordered i r update_if_id refl has place found)
        (λ list lt other. other_answered list book (get_or lists list []) (is.each_is_list_of list lt) ordered i r update_if_id (out_of_list list r other))

    pub its_item : is_flush r.op ≡ false → Contains (get_or lists (list_number_of_port r.port) []) (item_of r)
    its_item has = (own_list.has_their_sectors (item_of r)).1 (r, (i, slice_get_within book i r update_if_id, get_or_from_slice_get book i r r update_if_id), refl, has, refl)

pub changed_indexed : (book : List Unanswered) (lists : List (List RequestRange)) (g : Unanswered → Unanswered) → ((r : Unanswered) → item_of (g r) ≡ item_of r) → ((r : Unanswered) → (g r).op ≡ r.op)
    → ((r : Unanswered) → (g r).port ≡ r.port) → AreIndexed book lists → AreIndexed (map g book) lists
changed_indexed book lists g same_item same_op same_port is = record {
  four_lists = is.four_lists;
  each_is_list_of = λ list lt. changed_list list book (get_or lists list []) g same_item same_op same_port (is.each_is_list_of list lt);
}

-- the same place and list, by other words
pub put_back : (book : List Unanswered) (lists : List (List RequestRange)) (i j : ℕ) (x y : List RequestRange) → i ≡ j → x ≡ y → AreIndexed book (set lists j y) → AreIndexed book (set lists i x)
put_back book lists i j x y ei ex is = subst (λ (n : ℕ). AreIndexed book (set lists n x)) (sym ei) (subst (λ (z : List RequestRange). AreIndexed book (set lists j z)) (sym ex) is)

pub by_default : (lists : List (List RequestRange)) (i j : ℕ) (d : List RequestRange) → i ≡ j → j < length lists → get_or lists i d ≡ get_or lists j []
by_default lists i j d e lt = ap (λ (n : ℕ). get_or lists n d) e ∙ get_or_default lists j d [] lt

-- ---- of the book's own requests

pub asks_more : (es : List BookEntry) (e : BookEntry) → unanswered_of (es ++ e ∷ []) ≡ unanswered_of es ++ as_unanswered e.request ∷ []
asks_more es e = map-append (λ (x : BookEntry). as_unanswered x.request) es (e ∷ [])

pub asks_less : (es : List BookEntry) (i : ℕ) → unanswered_of (remove es i) ≡ remove (unanswered_of es) i
asks_less es i =
    map-append (λ (x : BookEntry). as_unanswered x.request) (take i es) (drop (suc i) es)
    ∙ (ap (λ (xs : List Unanswered). xs ++ unanswered_of (drop (suc i) es)) (sym (take-map (λ (x : BookEntry). as_unanswered x.request) i es))
    ∙ ap (λ (xs : List Unanswered). take i (unanswered_of es) ++ xs) (sym (drop-map (λ (x : BookEntry). as_unanswered x.request) (suc i) es)))

same_marked : (b : Bool) (r : Unanswered) (issued : Bool) → (item_of (cond b (record r { issued = issued }) r) ≡ item_of r)
    × ((cond b (record r { issued = issued }) r).op ≡ r.op) × ((cond b (record r { issued = issued }) r).port ≡ r.port)
same_marked true r issued = (refl, refl, refl)
same_marked false r issued = (refl, refl, refl)

pub issued_indexed : (es : List BookEntry) (id : RequestId) (lists : List (List RequestRange)) → AreIndexed (unanswered_of es) lists → AreIndexed (unanswered_of (map (update_if_id id issued_request) es)) lists
issued_indexed es id lists is = subst (λ (book : List Unanswered). AreIndexed book lists) (sym (after_issue es id))
    (changed_indexed (unanswered_of es) lists (mark_issued id) (λ r. (same_marked (r.id.0 == id.0) r true).0) (λ r. (same_marked (r.id.0 == id.0) r true).1) (λ r. (same_marked (r.id.0 == id.0) r true).2) is)

pub requeued_indexed : (es : List BookEntry) (id : RequestId) (lists : List (List RequestRange)) → AreIndexed (unanswered_of es) lists → AreIndexed (unanswered_of (map (update_if_id id request_with_issued_cleared) es)) lists
requeued_indexed es id lists is = subst (λ (book : List Unanswered). AreIndexed book lists) (sym (after_requeue es id))
    (changed_indexed (unanswered_of es) lists (mark_waiting id) (λ r. (same_marked (r.id.0 == id.0) r false).0) (λ r. (same_marked (r.id.0 == id.0) r false).1) (λ r. (same_marked (r.id.0 == id.0) r false).2) is)

pub asks_newest : (es : List BookEntry) (n : ℕ) → All (λ e. e.request.id.0 < n) es → All (λ r. r.id.0 < n) (unanswered_of es)
asks_newest es n newest = All-map (λ (r : Unanswered). r.id.0 < n) (λ (e : BookEntry). as_unanswered e.request) es newest
