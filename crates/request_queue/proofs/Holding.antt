-- What the book's changes make of the blockers.
use Rattle.std.proofs.Common.{◌≡◌, ◌≢◌, ◌↔◌, ℕ, ◌<◌, ◌≤◌, ◌+◌, Bool, true, false, not, ◌&&◌, ◌||◌, ◌==◌, ◌%◌, List, [], ◌∷◌, ◌++◌, length, get_or, set, Option, Some, None, refl, sym, ap, ◌∙◌, subst, arith, ltb-true, eqb-true, eq-eqb, ⊎_elim, inl, inr}
use Rattle.std.specs.List.{All, Contains, list_any, remove, slice_get}
use Rattle.std.specs.Option.{option_map}
use Rattle.std.specs.Prelude.{nat_lt, IfNone, IfSome}
use Rattle.std.proofs.lemmas.Bool.{and_parts, and_from, or_cases, or_left, or_right, both_ways, cases_eq, cases_lt, false_from_ne_true}
use Rattle.std.proofs.lemmas.List.{map-set, length-set, length_push, get_or_push, get_or_append_left, get_or-set_same, get_or-set_other}
use Rattle.std.proofs.lemmas.List.Edits.{length-remove, get_or-remove_below, get_or-remove_above}
use Rattle.std.proofs.lemmas.List.Elements.{Contains-append_left, Contains-append_cases}
use Rattle.std.proofs.lemmas.Option.{slice_get_within, slice_get-map, get_or_from_slice_get}
use Rattle.ata_types.specs.declared.request.RequestId.{RequestId}
use Rattle.block_machine.specs.declared.due.Unanswered.{Unanswered}
use Rattle.block_machine.specs.DueRequests.{IsInOrder, conflict_on_port_by_flush_or_overlap, is_earlier_on_port, is_flush, changes_sectors, are_overlapping}
use Rattle.request_queue.specs.declared.ranges.RequestRange.{RequestRange}
use Rattle.request_queue.specs.BookRanges.{is_earlier_conflict_on_port}
use Rattle.request_queue.specs.BookEntries.{BookEntry, as_unanswered, unanswered_of, issued_request, request_with_issued_cleared}
use Rattle.request_queue.specs.Flushes.{listed_flush, flushes_among, comes_after_flush}
use Rattle.request_queue.specs.declared.flushes.Flush.{Flush}
use Rattle.request_queue.specs.Blockers.{AreBlockers, AreBlockersExceptOf, IsBlockerOf, waiting_read_or_write_has_blocker, is_blocked_by, is_waiting_read_or_write, conflicts_with_earlier}
use Rattle.request_queue.specs.Sectors.{AreIndexed, AreItemsOfList, item_of, list_number_of_port}
use Rattle.request_queue.proofs.Flushing.{in_flushes, of_flushes}
use Rattle.request_queue.proofs.Indexing.{asks_more, asks_newest, ids_apart, in_four, in_remove}
use Rattle.request_queue.proofs.Members.{contains_none, contains_cases}
use Rattle.request_queue.proofs.Unheld.{found, one_found, no_flush}

-- ---- found by its sectors, or among the flushes

module _ (book : List Unanswered) (lists : List (List RequestRange)) (is : AreIndexed book lists) (flushes : List Flush) (are_flushes : flushes ≡ flushes_among book) (r : Unanswered)
    (may : is_waiting_read_or_write r ≡ true) where
  abbrev items : List RequestRange
  items = get_or lists (list_number_of_port r.port) []

  sectors : AreItemsOfList (list_number_of_port r.port) book items
  sectors = (is.each_is_list_of (list_number_of_port r.port) (in_four r.port)).has_their_sectors

  no_flush_itself : is_flush r.op ≡ false
  no_flush_itself = no_flush r.op (and_parts (not r.issued) _ may).1

  none_found : list_any (is_earlier_conflict_on_port (item_of r)) items ≡ false → list_any (comes_after_flush r) flushes ≡ false → waiting_read_or_write_has_blocker book r ≡ false
  none_found none empty_flushes = false_from_ne_true _ (λ held.
      let o = one_found (conflicts_with_earlier r) book (and_parts (is_waiting_read_or_write r) _ held).1 in
      let parts = and_parts (is_earlier_on_port o.0 r) _ o.2 in
      by o.0 o.1 parts.0 parts.1 (is_flush o.0.op) refl)
    where
      by_sectors : (o : Unanswered) → is_flush o.op ≡ false → ((is_flush o.op || is_flush r.op) || ((changes_sectors o.op || changes_sectors r.op) && are_overlapping o.range r.range)) ≡ true
          → ((changes_sectors o.op || changes_sectors r.op) && are_overlapping o.range r.range) ≡ true
      by_sectors o other meets = ⊎_elim
          (λ (flush : (is_flush o.op || is_flush r.op) ≡ true). absurd (⊎_elim
          (λ (f : is_flush o.op ≡ true). both_ways _ other f)
          (λ (f : is_flush r.op ≡ true). both_ways _ no_flush_itself f)
          (or_cases (is_flush o.op) (is_flush r.op) flush)))
          (λ both. both)
          (or_cases (is_flush o.op || is_flush r.op) _ meets)

      by : (o : Unanswered) → Contains book o → is_earlier_on_port o r ≡ true → conflict_on_port_by_flush_or_overlap o r ≡ true → (b : Bool) → is_flush o.op ≡ b → ⊥
      by o there earlier meets true flush = both_ways _ empty_flushes (found (comes_after_flush r) flushes (listed_flush o)
          (subst (λ (fs : List Flush). Contains fs (listed_flush o)) (sym are_flushes) (in_flushes book o there flush)) earlier)
      by o there earlier meets false other =
          let early = and_parts (o.port.0 == r.port.0) _ earlier in
          let both = and_parts (o.port.0 == r.port.0) _ meets in
          let list : list_number_of_port o.port ≡ list_number_of_port r.port = ap (λ (n : ℕ). n % 4) (eqb-true o.port.0 r.port.0 early.0) in
          both_ways _ none (found (is_earlier_conflict_on_port (item_of r)) items (item_of o) ((sectors (item_of o)).1 (o, there, list, other, refl))
          (and_from _ _ early.0 (and_from _ _ early.1 (by_sectors o other both.1))))

  pub one_holds : (x : RequestRange) → Contains items x → is_earlier_conflict_on_port (item_of r) x ≡ true → IsBlockerOf book r (Some x.id)
  one_holds x there meets =
      let h = (sectors x).0 there in
      let o = h.0 in
      let holds_it : is_earlier_conflict_on_port (item_of r) (item_of o) ≡ true = ap (is_earlier_conflict_on_port (item_of r)) h.4 ∙ meets in
      let one = and_parts (o.port.0 == r.port.0) _ holds_it in
      let two = and_parts (nat_lt o.id.0 r.id.0) _ one.1 in (
        may,
        (o, h.1, ap (λ (i : RequestRange). i.id) h.4, and_from _ _ (and_from _ _ one.0 two.0) (and_from _ _ one.0 (or_right (is_flush o.op || is_flush r.op) _ two.1))),
      )

  flush_holds : (f : Flush) → Contains flushes f → comes_after_flush r f ≡ true → IsBlockerOf book r (Some f.id)
  flush_holds f there early =
      let h = of_flushes book f (subst (λ (fs : List Flush). Contains fs f) are_flushes there) in
      let o = h.0 in
      let earlier : is_earlier_on_port o r ≡ true = ap (comes_after_flush r) h.3 ∙ early in (
        may,
        (o, h.1, ap (λ (g : Flush). g.id) h.3, and_from _ _ earlier (and_from _ _ (and_parts (o.port.0 == r.port.0) _ earlier).0 (or_left _ _ (or_left _ _ h.2)))),
      )

  -- where the index has none, the flushes are looked at
  pub by_flushes : list_any (is_earlier_conflict_on_port (item_of r)) items ≡ false → (h : Option RequestId) → IfNone h (list_any (comes_after_flush r) flushes ≡ false)
      → IfSome h (λ id. (f : Flush) × Contains flushes f × (f.id ≡ id) × (comes_after_flush r f ≡ true)) → IsBlockerOf book r h
  by_flushes none None empty_flushes some = none_found none empty_flushes
  by_flushes none (Some id) empty_flushes some = subst (λ (n : RequestId). IsBlockerOf book r (Some n)) some.2 (flush_holds some.0 some.1 some.3)

-- ---- kept by a change

-- a blocker stays where those that may hold do
carried : (old new : List Unanswered) (r s : Unanswered) (h : Option RequestId) → is_waiting_read_or_write s ≡ is_waiting_read_or_write r
    → ((o : Unanswered) → Contains new o → conflicts_with_earlier s o ≡ true → (u : Unanswered) × Contains old u × (conflicts_with_earlier r u ≡ true))
    → ((o : Unanswered) → Contains old o → h ≡ Some o.id → conflicts_with_earlier r o ≡ true → (u : Unanswered) × Contains new u × (u.id ≡ o.id) × (conflicts_with_earlier s u ≡ true))
    → IsBlockerOf old r h → IsBlockerOf new s h
carried old new r s None same back forth none = false_from_ne_true _ (λ held.
    let two = and_parts (is_waiting_read_or_write s) _ held in
    let o = one_found (conflicts_with_earlier s) new two.1 in
    let u = back o.0 o.1 o.2 in
    both_ways _ none (and_from _ _ (sym same ∙ two.0) (found (conflicts_with_earlier r) old u.0 u.1 u.2)))
carried old new r s (Some id) same back forth is =
    let u = forth is.1.0 is.1.1 (ap Some (sym is.1.2)) is.1.3 in
    (same ∙ is.0, (u.0, u.1, u.2 ∙ is.1.2, u.3))

-- one that may hold a request was accepted before it
pub holds_earlier : (r o : Unanswered) → conflicts_with_earlier r o ≡ true → o.id.0 < r.id.0
holds_earlier r o is = ltb-true o.id.0 r.id.0 (and_parts (o.port.0 == r.port.0) _ (and_parts (is_earlier_on_port o r) _ is).0).1

-- accepted
module _ (book : List Unanswered) (blockers : List (Option RequestId)) (r : Unanswered) (h : Option RequestId) (are : AreBlockers book blockers)
    (newest : All (λ o. o.id.0 < r.id.0) book) (its : IsBlockerOf book r h) where
  abbrev longer : List Unanswered
  longer = book ++ r ∷ []

  still : (x : Unanswered) (g : Option RequestId) → x.id.0 ≤ r.id.0 → IsBlockerOf book x g → IsBlockerOf longer x g
  still x g low is = carried book longer x x g refl
      (λ o there holds. elim (Contains-append_cases book (r ∷ []) o there) [
        | inl old ↦ (o, old, holds)
        | inr new ↦ elim (contains_cases r [] o new) [
          | inl e ↦ let less = holds_earlier x o holds in let same = ap (λ (u : Unanswered). u.id.0) e in absurd (omega (arith, less, same, low))
          | inr none ↦ absurd (contains_none o none)
        ]
      ])
      (λ o there named holds. (o, Contains-append_left book (r ∷ []) o there, refl, holds))
      is

  pub accepted_holders : AreBlockers longer (blockers ++ h ∷ [])
  accepted_holders = record {
    lengths_are_same = let a = length_push blockers h in let b = length_push book r in let n = are.lengths_are_same in omega (arith, a, b, n);
    blocker_of_each = λ k d lt. let long = length_push book r in let n = are.lengths_are_same in elim (cases_lt k (length book)) [
      | inl low ↦
          let x = get_or book k d in
          subst (λ (y : Unanswered). IsBlockerOf longer y (get_or (blockers ++ h ∷ []) k None)) (sym (get_or_append_left book (r ∷ []) d k low))
          (subst (λ (g : Option RequestId). IsBlockerOf longer x g) (sym (get_or_append_left blockers (h ∷ []) None k (omega (arith, low, n))))
          (still x (get_or blockers k None) (let up = newest k d low in omega (arith, up)) (are.blocker_of_each k d low)))
      | inr high ↦
          subst (λ (y : Unanswered). IsBlockerOf longer y (get_or (blockers ++ h ∷ []) k None)) (sym (get_or_push book r d k (omega (arith, high, lt, long))))
          (subst (λ (g : Option RequestId). IsBlockerOf longer r g) (sym (get_or_push blockers h None k (omega (arith, high, lt, long, n)))) (still r h (omega arith) its))
    ];
  }

-- issued, or waiting again
module _ (book : List Unanswered) (blockers : List (Option RequestId)) (i : ℕ) (r : Unanswered) (issued : Bool) (h : Option RequestId) (are : AreBlockers book blockers)
    (at : slice_get book i ≡ Some r) where
  abbrev marked : Unanswered
  marked = record r { issued = issued }

  abbrev marked_book : List Unanswered
  marked_book = set book i marked

  within : i < length book
  within = slice_get_within book i r at

  pub marked_holders : IsBlockerOf marked_book marked h → AreBlockers marked_book (set blockers i h)
  marked_holders its = record {
    lengths_are_same = length-set blockers i h ∙ (are.lengths_are_same ∙ sym (length-set book i marked));
    blocker_of_each = λ k d lt. let long = length-set book i marked in let n = are.lengths_are_same in elim (cases_eq k i) [
      | inl e ↦ subst (λ (j : ℕ). IsBlockerOf marked_book (get_or marked_book j d) (get_or (set blockers i h) j None)) (sym e)
          (subst (λ (y : Unanswered). IsBlockerOf marked_book y (get_or (set blockers i h) i None)) (sym (get_or-set_same book i marked d within))
          (subst (λ (g : Option RequestId). IsBlockerOf marked_book marked g) (sym (get_or-set_same blockers i h None (let w = within in omega (arith, w, n)))) its))
      | inr ne ↦
          let x = get_or book k d in
          subst (λ (y : Unanswered). IsBlockerOf marked_book y (get_or (set blockers i h) k None)) (sym (get_or-set_other book i k marked d ne))
          (subst (λ (g : Option RequestId). IsBlockerOf marked_book x g) (sym (get_or-set_other blockers i k h None ne))
          (carried book marked_book x x (get_or blockers k None) refl (back x) (λ o there named holds. forth x o there holds) (are.blocker_of_each k d (omega (arith, lt, long)))))
    ];
  }
    where
      back : (x o : Unanswered) → Contains marked_book o → conflicts_with_earlier x o ≡ true → (u : Unanswered) × Contains book u × (conflicts_with_earlier x u ≡ true)
      back x o there holds = let long = length-set book i marked in let lt = there.1 in elim (cases_eq there.0 i) [
        | inl e ↦
            let same : o ≡ marked = sym there.2 ∙ (ap (λ (j : ℕ). get_or marked_book j o) e ∙ get_or-set_same book i marked o within) in
            (r, (i, within, get_or_from_slice_get book i r r at), ap (conflicts_with_earlier x) (sym same) ∙ holds)
        | inr ne ↦ (o, (there.0, omega (arith, lt, long), sym (get_or-set_other book i there.0 marked o ne) ∙ there.2), holds)
      ]

      forth : (x o : Unanswered) → Contains book o → conflicts_with_earlier x o ≡ true → (u : Unanswered) × Contains marked_book u × (u.id ≡ o.id) × (conflicts_with_earlier x u ≡ true)
      forth x o there holds = let long = length-set book i marked in let lt = there.1 in elim (cases_eq there.0 i) [
        | inl e ↦
            let same : o ≡ r = sym there.2 ∙ (ap (λ (j : ℕ). get_or book j o) e ∙ get_or_from_slice_get book i r o at) in
            let w = within in
            (marked, (i, omega (arith, w, long), get_or-set_same book i marked marked within), ap (λ (u : Unanswered). u.id) (sym same), ap (conflicts_with_earlier x) (sym same) ∙ holds)
        | inr ne ↦ (o, (there.0, omega (arith, lt, long), get_or-set_other book i there.0 marked o ne ∙ there.2), refl, holds)
      ]

-- an issued request has none
pub issued_has_none : (book : List Unanswered) (r : Unanswered) → waiting_read_or_write_has_blocker book (record r { issued = true }) ≡ false
issued_has_none book r = refl

-- answered
module _ (book : List Unanswered) (blockers : List (Option RequestId)) (i : ℕ) (r : Unanswered) (are : AreBlockers book blockers) (ordered : IsInOrder book)
    (at : slice_get book i ≡ Some r) where
  inside : i < length book
  inside = slice_get_within book i r at

  left_over : (o : Unanswered) → Contains (remove book i) o ↔ (Contains book o × (o.id ≢ r.id))
  left_over o = in_remove (λ (u : Unanswered). u.id) book i r at (ids_apart book ordered) o

  stays : (x : Unanswered) (g : Option RequestId) → is_blocked_by r.id g ≡ false → IsBlockerOf book x g → IsBlockerOf (remove book i) x g
  stays x g other is = carried book (remove book i) x x g refl
      (λ o there holds. (o, ((left_over o).0 there).0, holds))
      (λ o there named holds. (o, (left_over o).1 (there, λ e. both_ways _ other (ap (is_blocked_by r.id) named ∙ eq-eqb o.id.0 r.id.0 (ap (λ (n : RequestId). n.0) e))), refl, holds))
      is

  not_before : (x : Unanswered) (g : Option RequestId) → x.id.0 < r.id.0 → IsBlockerOf book x g → is_blocked_by r.id g ≡ false
  not_before x None low is = refl
  not_before x (Some id) low is = false_from_ne_true _ (λ same.
      let n = eqb-true id.0 r.id.0 same in
      let its = ap (λ (j : RequestId). j.0) is.1.2 in
      let less = holds_earlier x is.1.0 is.1.3 in
      omega (arith, n, its, less, low))

  at_left : (k : ℕ) (d : Unanswered) → k < length (remove book i) → is_blocked_by r.id (get_or (remove blockers i) k None) ≡ false
      → IsBlockerOf (remove book i) (get_or (remove book i) k d) (get_or (remove blockers i) k None)
  at_left k d lt other =
      let w = inside in
      let n = are.lengths_are_same in
      let a = length-remove book i inside in
      elim (cases_lt k i) [
        | inl low ↦
            let x = get_or-remove_below book i d k low inside in
            let g = get_or-remove_below blockers i None k low (omega (arith, w, n)) in
            subst (λ (y : Unanswered). IsBlockerOf (remove book i) y (get_or (remove blockers i) k None)) (sym x)
            (stays (get_or book k d) (get_or (remove blockers i) k None) other (subst (λ (h : Option RequestId). IsBlockerOf book (get_or book k d) h) (sym g) (are.blocker_of_each k d (omega (arith, lt, a)))))
        | inr high ↦
            let x = get_or-remove_above book i d k high inside in
            let g = get_or-remove_above blockers i None k high (omega (arith, w, n)) in
            subst (λ (y : Unanswered). IsBlockerOf (remove book i) y (get_or (remove blockers i) k None)) (sym x)
            (stays (get_or book (k + 1) d) (get_or (remove blockers i) k None) other (subst (λ (h : Option RequestId). IsBlockerOf book (get_or book (k + 1) d) h) (sym g) (are.blocker_of_each (k + 1) d (omega (arith, lt, a)))))
      ]

  pub removed_holders : AreBlockersExceptOf r.id i (remove book i) (remove blockers i)
  removed_holders = record {
    lengths_are_same =
        let w = inside in
        let n = are.lengths_are_same in
        let a = length-remove book i inside in
        let b = length-remove blockers i (omega (arith, w, n)) in
        omega (arith, a, b, n);
    blockers_before_place = λ k d low lt.
        let w = inside in
        let n = are.lengths_are_same in
        let a = length-remove book i inside in
        let g = get_or-remove_below blockers i None k low (omega (arith, w, n)) in
        let up = ordered k i d low inside in
        let same = ap (λ (u : Unanswered). u.id.0) (get_or_from_slice_get book i r d at) in
        at_left k d lt (ap (is_blocked_by r.id) g ∙ not_before (get_or book k d) (get_or blockers k None) (omega (arith, up, same)) (are.blocker_of_each k d (omega (arith, lt, a))));
    other_blockers = at_left;
  }

-- one place further
module _ (id : RequestId) (place : ℕ) (book : List Unanswered) (blockers : List (Option RequestId)) (are : AreBlockersExceptOf id place book blockers) where
  pub one_kept : is_blocked_by id (get_or blockers place None) ≡ false → AreBlockersExceptOf id (place + 1) book blockers
  one_kept other = record {
    lengths_are_same = are.lengths_are_same;
    blockers_before_place = λ k d lt short. elim (cases_eq k place) [
      | inl e ↦ are.other_blockers k d short (ap (λ (j : ℕ). is_blocked_by id (get_or blockers j None)) e ∙ other)
      | inr ne ↦ are.blockers_before_place k d (omega (arith, lt, ne)) short
    ];
    other_blockers = are.other_blockers;
  }

  pub one_anew : (r : Unanswered) (h : Option RequestId) → slice_get book place ≡ Some r → IsBlockerOf book r h → AreBlockersExceptOf id (place + 1) book (set blockers place h)
  one_anew r h at its = record {
    lengths_are_same = length-set blockers place h ∙ are.lengths_are_same;
    blockers_before_place = λ k d lt short. elim (cases_eq k place) [
      | inl e ↦ here k d e
      | inr ne ↦ subst (λ (g : Option RequestId). IsBlockerOf book (get_or book k d) g) (sym (get_or-set_other blockers place k h None ne)) (are.blockers_before_place k d (omega (arith, lt, ne)) short)
    ];
    other_blockers = λ k d short other. elim (cases_eq k place) [
      | inl e ↦ here k d e
      | inr ne ↦
          let g = get_or-set_other blockers place k h None ne in
          subst (λ (g : Option RequestId). IsBlockerOf book (get_or book k d) g) (sym g) (are.other_blockers k d short (ap (is_blocked_by id) (sym g) ∙ other))
    ];
  }
    where
      here : (k : ℕ) (d : Unanswered) → k ≡ place → IsBlockerOf book (get_or book k d) (get_or (set blockers place h) k None)
      here k d e =
          let w = slice_get_within book place r at in
          let n = are.lengths_are_same in
          subst (λ (j : ℕ). IsBlockerOf book (get_or book j d) (get_or (set blockers place h) j None)) (sym e)
          (subst (λ (y : Unanswered). IsBlockerOf book y (get_or (set blockers place h) place None)) (sym (get_or_from_slice_get book place r d at))
          (subst (λ (g : Option RequestId). IsBlockerOf book r g) (sym (get_or-set_same blockers place h None (omega (arith, w, n)))) its))

  pub all_searched : length book ≤ place → AreBlockers book blockers
  all_searched over = record { lengths_are_same = are.lengths_are_same; blocker_of_each = λ k d lt. are.blockers_before_place k d (omega (arith, lt, over)) lt }

-- ---- read at a place

module _ (book : List Unanswered) (r : Unanswered) where
  pub no_holder : (h : Option RequestId) → h ≡ None → IsBlockerOf book r h → waiting_read_or_write_has_blocker book r ≡ false
  no_holder None e is = is
  no_holder (Some id) e is = absurd (some_none id e)
    where
      some_none : (id : RequestId) → ◌≡◌ {A = Option RequestId} (Some id) None → ⊥
      some_none id e = cc

  pub a_holder : (h : Option RequestId) → (h ≡ None → ⊥) → IsBlockerOf book r h → waiting_read_or_write_has_blocker book r ≡ true
  a_holder None some is = absurd (some refl)
  a_holder (Some id) some is = and_from _ _ is.0 (found (conflicts_with_earlier r) book is.1.0 is.1.1 is.1.3)

-- ---- of the book's own requests

asks_there : (es : List BookEntry) (i : ℕ) (e : BookEntry) → slice_get es i ≡ Some e → slice_get (unanswered_of es) i ≡ Some (as_unanswered e.request)
asks_there es i e at = slice_get-map (λ (x : BookEntry). as_unanswered x.request) es i ∙ ap (option_map (λ (x : BookEntry). as_unanswered x.request)) at

asks_set : (es : List BookEntry) (i : ℕ) (e : BookEntry) → unanswered_of (set es i e) ≡ set (unanswered_of es) i (as_unanswered e.request)
asks_set es i e = map-set (λ (x : BookEntry). as_unanswered x.request) es i e

pub empty_blockers : AreBlockers [] []
empty_blockers = record { lengths_are_same = refl; blocker_of_each = λ k d lt. absurd (omega (arith, lt)) }

pub longer_holders : (es : List BookEntry) (e : BookEntry) (blockers : List (Option RequestId)) (r : Unanswered) (h : Option RequestId) → r ≡ as_unanswered e.request → AreBlockers (unanswered_of es) blockers
    → All (λ x. x.request.id.0 < e.request.id.0) es → IsBlockerOf (unanswered_of es) r h → AreBlockers (unanswered_of (es ++ e ∷ [])) (blockers ++ h ∷ [])
longer_holders es e blockers r h same are newest its =
    subst (λ (book : List Unanswered). AreBlockers book (blockers ++ h ∷ [])) (sym (asks_more es e))
    (accepted_holders (unanswered_of es) blockers (as_unanswered e.request) h are (asks_newest es e.request.id.0 newest) (subst (λ (x : Unanswered). IsBlockerOf (unanswered_of es) x h) same its))

pub issued_holders : (es : List BookEntry) (blockers : List (Option RequestId)) (i : ℕ) (e : BookEntry) → AreBlockers (unanswered_of es) blockers → slice_get es i ≡ Some e
    → AreBlockers (unanswered_of (set es i (record e { request = issued_request e.request }))) (set blockers i None)
issued_holders es blockers i e are at =
    subst (λ (book : List Unanswered). AreBlockers book (set blockers i None)) (sym (asks_set es i (record e { request = issued_request e.request })))
    (marked_holders (unanswered_of es) blockers i (as_unanswered e.request) true None are (asks_there es i e at) refl)

pub requeued_holders : (es : List BookEntry) (blockers : List (Option RequestId)) (i : ℕ) (e : BookEntry) (r : Unanswered) (h : Option RequestId) → AreBlockers (unanswered_of es) blockers → slice_get es i ≡ Some e
    → slice_get (unanswered_of (set es i (record e { request = request_with_issued_cleared e.request }))) i ≡ Some r → IsBlockerOf (unanswered_of (set es i (record e { request = request_with_issued_cleared e.request }))) r h
    → AreBlockers (unanswered_of (set es i (record e { request = request_with_issued_cleared e.request }))) (set blockers i h)
requeued_holders es blockers i e r h are at its is =
    let there = asks_there es i e at in
    let new = asks_set es i (record e { request = request_with_issued_cleared e.request }) in
    let waiting : Unanswered = as_unanswered (request_with_issued_cleared e.request) in
    let same : r ≡ waiting =
    sym (get_or_from_slice_get (set (unanswered_of es) i waiting) i r waiting (subst (λ (book : List Unanswered). slice_get book i ≡ Some r) new its))
    ∙ get_or-set_same (unanswered_of es) i waiting waiting (slice_get_within (unanswered_of es) i (as_unanswered e.request) there) in
    subst (λ (book : List Unanswered). AreBlockers book (set blockers i h)) (sym new)
    (marked_holders (unanswered_of es) blockers i (as_unanswered e.request) false h are there
    (subst (λ (book : List Unanswered). IsBlockerOf book waiting h) new (subst (λ (x : Unanswered). IsBlockerOf (unanswered_of (set es i (record e { request = request_with_issued_cleared e.request }))) x h) same is)))

pub fewer_holders : (es : List BookEntry) (blockers : List (Option RequestId)) (i : ℕ) (e : BookEntry) (id : RequestId) → AreBlockers (unanswered_of es) blockers → IsInOrder (unanswered_of es)
    → slice_get es i ≡ Some e → e.request.id ≡ id → AreBlockersExceptOf id i (remove (unanswered_of es) i) (remove blockers i)
fewer_holders es blockers i e id are ordered at named =
    subst (λ (n : RequestId). AreBlockersExceptOf n i (remove (unanswered_of es) i) (remove blockers i)) named
    (removed_holders (unanswered_of es) blockers i (as_unanswered e.request) are ordered (asks_there es i e at))
