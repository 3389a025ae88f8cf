-- What stands in the way of a request that the walk comes to.
use Rattle.std.proofs.Common.{◌≡◌, ◌↔◌, ℕ, ◌<◌, Bool, true, false, not, cond, ◌&&◌, ◌||◌, ◌==◌, [], ◌∷◌, List, length, get_or, refl, sym, ap, ◌∙◌, subst, arith, lt-ltb, ltb-true, eq-eqb, ⊎_elim, inl, inr}
use Rattle.std.specs.List.{list_any, count_by, Contains}
use Rattle.std.specs.Prelude.{nat_lt}
use Rattle.std.proofs.lemmas.Bool.{and_parts, and_from, or_cases, or_left, or_right, cond-true, cond-false, both_ways, cases_lt, cases_eq, false_from_ne_true}
use Rattle.std.proofs.lemmas.List.{get_or_default}
use Rattle.std.proofs.lemmas.List.Folds.{Any-from_list_any}
use Rattle.std.proofs.lemmas.Option.{slice_get_within, get_or_from_slice_get}
use Rattle.ata_types.specs.declared.Port.{Port}
use Rattle.block_machine.specs.declared.due.QueueMode.{QueueMode}
use Rattle.block_machine.specs.declared.due.Unanswered.{Unanswered}
use Rattle.block_machine.specs.DueRequests.{conflict_on_port_by_flush_or_overlap, waits_for, is_waiting_and_unblocked, is_plain}
use Rattle.request_queue.specs.Blockers.{is_waiting_read_or_write, conflicts_with_earlier}
use Rattle.request_queue.specs.DueWalk.{TalliesIssued, IsReachedInWalk, is_issued_plain}
use Rattle.request_queue.specs.declared.due.IssuedTally.{IssuedTally}
use Rattle.request_queue.proofs.Members.{count_cons, contains_none, contains_here, contains_there, contains_cases}
use Rattle.request_queue.proofs.Unheld.{found, one_found, queued_is_read_or_write, same_bool}

to_count : (p : Unanswered → Bool) (ys : List Unanswered) (y : Unanswered) → Contains ys y → p y ≡ true → 0 < count_by p ys
to_count p [] y there is = absurd (contains_none y there)
to_count p (x ∷ ys) y there is = let h = count_cons p x ys in elim (contains_cases x ys y there) [
  | inl e ↦ let one : ◌≡◌ {A = ℕ} (cond (p x) 1 0) 1 = cond-true (p x) 1 0 (ap p (sym e) ∙ is) in omega (arith, h, one)
  | inr later ↦ let rest = to_count p ys y later is in omega (arith, h, rest)
]

from_count : (p : Unanswered → Bool) (ys : List Unanswered) → 0 < count_by p ys → list_any p ys ≡ true
from_count p [] some = absurd (let none : count_by p [] ≡ 0 = refl in omega (arith, some, none))
from_count p (x ∷ ys) some = by (p x) refl (λ rest. from_count p ys rest)
  where
    by : (b : Bool) → p x ≡ b → (0 < count_by p ys → list_any p ys ≡ true) → list_any p (x ∷ ys) ≡ true
    by true is later = found p (x ∷ ys) x (contains_here x ys x refl) is
    by false is later =
        let h = count_cons p x ys in
        let none : ◌≡◌ {A = ℕ} (cond (p x) 1 0) 0 = cond-false (p x) 1 0 is in
        let any = Any-from_list_any p ys (later (omega (arith, h, none, some))) in
        found p (x ∷ ys) any.1 (contains_there x ys any.1 (any.0, any.2, any.3)) any.4

-- some pass exactly where they are counted
pub counted_any : (p : Unanswered → Bool) (xs : List Unanswered) → nat_lt 0 (count_by p xs) ≡ list_any p xs
counted_any p xs = same_bool (nat_lt 0 (count_by p xs)) (list_any p xs) (λ some. from_count p xs (ltb-true 0 (count_by p xs) some))
    (λ any. let a = Any-from_list_any p xs any in lt-ltb 0 (count_by p xs) (to_count p xs a.1 (a.0, a.2, a.3) a.4))

module _ (mode : QueueMode) (requests : List Unanswered) (i : ℕ) (r : Unanswered) (reached : IsReachedInWalk mode requests i r) where
  its : get_or requests i r ≡ r
  its = get_or_from_slice_get requests i r r reached.request_is_at_number

  within : i < length requests
  within = slice_get_within requests i r reached.request_is_at_number

  -- one with a lower id stands earlier
  earlier : (o : Unanswered) (there : Contains requests o) → o.id.0 < r.id.0 → there.0 < i
  earlier o there less = elim (cases_lt there.0 i) [
    | inl low ↦ low
    | inr high ↦
        let a = ap (λ (u : Unanswered). u.id.0) there.2 in
        elim (cases_eq there.0 i) [
          | inl e ↦
              let same = ap (λ (n : ℕ). (get_or requests n o).id.0) e in
              let b = ap (λ (u : Unanswered). u.id.0) (get_or_from_slice_get requests i r o reached.request_is_at_number) in absurd (omega (arith, same, a, b, less))
          | inr ne ↦
              let up = reached.book_is_in_order i there.0 o (omega (arith, high, ne)) there.1 in
              let b = ap (λ (u : Unanswered). u.id.0) (get_or_from_slice_get requests i r o reached.request_is_at_number) in absurd (omega (arith, up, a, b, less))
        ]
  ]

  of_one_port : (o : Unanswered) → Contains requests o → (o.port.0 == r.port.0) ≡ true
  of_one_port o there = eq-eqb o.port.0 r.port.0 (ap (λ (p : Port). p.0) (subst (λ (u : Unanswered). u.port ≡ r.port) there.2 (reached.all_are_of_its_port there.0 o there.1)))

  -- a plain request waits for all that are issued, and for all before it
  plain_held : is_plain mode r.op ≡ true → list_any (waits_for mode r) requests ≡ (list_any (λ (u : Unanswered). u.issued) requests || nat_lt 0 i)
  plain_held plain = same_bool (list_any (waits_for mode r) requests) (list_any (λ (u : Unanswered). u.issued) requests || nat_lt 0 i) back ahead
    where
      way : (o : Unanswered) → waits_for mode r o ≡ ((o.port.0 == r.port.0) && (o.issued || nat_lt o.id.0 r.id.0))
      way o = ap (λ (b : Bool). (o.port.0 == r.port.0) && b) (cond-true (is_plain mode r.op) (o.issued || nat_lt o.id.0 r.id.0) ((is_plain mode o.op && o.issued) || (nat_lt o.id.0 r.id.0 && (is_plain mode o.op || conflict_on_port_by_flush_or_overlap o r))) plain)

      ahead : (list_any (λ (u : Unanswered). u.issued) requests || nat_lt 0 i) ≡ true → list_any (waits_for mode r) requests ≡ true
      ahead is = ⊎_elim
          (λ (b : list_any (λ (u : Unanswered). u.issued) requests ≡ true).
          let any = one_found (λ (u : Unanswered). u.issued) requests b in
          found (waits_for mode r) requests any.0 any.1 (way any.0 ∙ and_from _ _ (of_one_port any.0 any.1) (or_left any.0.issued _ any.2)))
          (λ (f : nat_lt 0 i ≡ true).
          let some = ltb-true 0 i f in
          let lt = within in
          let up = reached.book_is_in_order 0 i r some within in
          let b = ap (λ (u : Unanswered). u.id.0) its in
          let o = get_or requests 0 r in
          let there : Contains requests o = (0, omega (arith, some, lt), get_or_default requests 0 o r (omega (arith, some, lt))) in
          found (waits_for mode r) requests o there (way o ∙ and_from _ _ (of_one_port o there) (or_right o.issued _ (lt-ltb o.id.0 r.id.0 (omega (arith, up, b))))))
          (or_cases _ _ is)

      back : list_any (waits_for mode r) requests ≡ true → (list_any (λ (u : Unanswered). u.issued) requests || nat_lt 0 i) ≡ true
      back is =
          let any = one_found (waits_for mode r) requests is in
          let parts = and_parts (any.0.port.0 == r.port.0) _ (sym (way any.0) ∙ any.2) in
          ⊎_elim
          (λ (b : any.0.issued ≡ true). or_left _ (nat_lt 0 i) (found (λ (u : Unanswered). u.issued) requests any.0 any.1 b))
          (λ (less : nat_lt any.0.id.0 r.id.0 ≡ true).
          let low = earlier any.0 any.1 (ltb-true any.0.id.0 r.id.0 less) in
          or_right (list_any (λ (u : Unanswered). u.issued) requests) _ (lt-ltb 0 i (omega (arith, low))))
          (or_cases any.0.issued _ parts.1)

  -- a queued request without a blocker waits for a plain one that is issued
  queued_held : r.issued ≡ false → is_plain mode r.op ≡ false → list_any (waits_for mode r) requests ≡ list_any (is_issued_plain mode) requests
  queued_held waits queued = same_bool (list_any (waits_for mode r) requests) (list_any (is_issued_plain mode) requests) back ahead
    where
      way : (o : Unanswered) → waits_for mode r o ≡ ((o.port.0 == r.port.0) && ((is_plain mode o.op && o.issued) || (nat_lt o.id.0 r.id.0 && (is_plain mode o.op || conflict_on_port_by_flush_or_overlap o r))))
      way o = ap (λ (b : Bool). (o.port.0 == r.port.0) && b)
          (cond-false (is_plain mode r.op) (o.issued || nat_lt o.id.0 r.id.0) ((is_plain mode o.op && o.issued) || (nat_lt o.id.0 r.id.0 && (is_plain mode o.op || conflict_on_port_by_flush_or_overlap o r))) queued)

      ahead : list_any (is_issued_plain mode) requests ≡ true → list_any (waits_for mode r) requests ≡ true
      ahead is =
          let any = one_found (is_issued_plain mode) requests is in
          found (waits_for mode r) requests any.0 any.1 (way any.0 ∙ and_from _ _ (of_one_port any.0 any.1) (or_left (is_plain mode any.0.op && any.0.issued) _ any.2))

      none_meets : (o : Unanswered) → Contains requests o → nat_lt o.id.0 r.id.0 ≡ true → is_plain mode o.op ≡ false → conflict_on_port_by_flush_or_overlap o r ≡ true → ⊥
      none_meets o there less alone meets = both_ways _ reached.without_blocker
          (and_from (is_waiting_read_or_write r) _ (and_from (not r.issued) _ (ap not waits) (queued_is_read_or_write mode r.op queued))
          (found (conflicts_with_earlier r) requests o there (and_from _ _ (and_from _ _ (of_one_port o there) less) meets)))

      back : list_any (waits_for mode r) requests ≡ true → list_any (is_issued_plain mode) requests ≡ true
      back is =
          let any = one_found (waits_for mode r) requests is in
          let o = any.0 in
          let parts = and_parts (o.port.0 == r.port.0) _ (sym (way o) ∙ any.2) in
          ⊎_elim
          (λ (b : (is_plain mode o.op && o.issued) ≡ true). found (is_issued_plain mode) requests o any.1 b)
          (λ (b : (nat_lt o.id.0 r.id.0 && (is_plain mode o.op || conflict_on_port_by_flush_or_overlap o r)) ≡ true).
          let less = and_parts (nat_lt o.id.0 r.id.0) _ b in
          let low = earlier o any.1 (ltb-true o.id.0 r.id.0 less.0) in
          let alone : is_plain mode o.op ≡ false = ap (λ (u : Unanswered). is_plain mode u.op) (sym any.1.2) ∙ reached.earlier_are_queued any.1.0 o low in
          absurd (⊎_elim
          (λ (p : is_plain mode o.op ≡ true). both_ways _ alone p)
          (λ (m : conflict_on_port_by_flush_or_overlap o r ≡ true). none_meets o any.1 less.0 alone m)
          (or_cases (is_plain mode o.op) _ less.1)))
          (or_cases (is_plain mode o.op && o.issued) _ parts.1)

  module _ (issued : IssuedTally) (are : TalliesIssued mode requests issued) where
    pub issued_isnt_clear : r.issued ≡ true → false ≡ is_waiting_and_unblocked mode requests r
    issued_isnt_clear is = sym (ap (λ (b : Bool). not b && not (list_any (waits_for mode r) requests)) is)

    pub plain_is_clear : r.issued ≡ false → is_plain mode r.op ≡ true → (none first : Bool) → (none ≡ true) ↔ (issued.count ≡ 0) → (first ≡ true) ↔ (i ≡ 0)
        → (none && first) ≡ is_waiting_and_unblocked mode requests r
    plain_is_clear waits plain none first counted numbered = same_bool (none && first) (is_waiting_and_unblocked mode requests r) ahead back
      where
        held : list_any (waits_for mode r) requests ≡ (nat_lt 0 issued.count || nat_lt 0 i)
        held = plain_held plain ∙ ap (λ (b : Bool). b || nat_lt 0 i) (sym (ap (nat_lt 0) are.0 ∙ counted_any (λ (u : Unanswered). u.issued) requests))

        ahead : (none && first) ≡ true → is_waiting_and_unblocked mode requests r ≡ true
        ahead both =
            let two = and_parts none first both in
            let none_issued = counted.0 two.0 in
            let is_first = numbered.0 two.1 in
            and_from (not r.issued) _ (ap not waits) (ap not (held ∙ false_from_ne_true _ (λ is. ⊎_elim
            (λ (b : nat_lt 0 issued.count ≡ true). let some = ltb-true 0 issued.count b in omega (arith, some, none_issued))
            (λ (b : nat_lt 0 i ≡ true). let some = ltb-true 0 i b in omega (arith, some, is_first))
            (or_cases (nat_lt 0 issued.count) _ is))))

        back : is_waiting_and_unblocked mode requests r ≡ true → (none && first) ≡ true
        back clear =
            let free = sym (held) ∙ none_of _ (and_parts (not r.issued) _ clear).1 in
            and_from none first (counted.1 (zero_of issued.count (λ some. both_ways _ free (or_left _ (nat_lt 0 i) some))))
            (numbered.1 (zero_of i (λ some. both_ways _ free (or_right (nat_lt 0 issued.count) _ some))))
          where
            none_of : (b : Bool) → not b ≡ true → b ≡ false
            none_of false e = refl
            none_of true e = sym e

            zero_of : (n : ℕ) → (nat_lt 0 n ≡ true → ⊥) → n ≡ 0
            zero_of n none = elim (cases_lt 0 n) [ inl some ↦ absurd (none (lt-ltb 0 n some)) | inr low ↦ omega (arith, low) ]

    pub queued_is_clear : r.issued ≡ false → is_plain mode r.op ≡ false → not issued.has_plain ≡ is_waiting_and_unblocked mode requests r
    queued_is_clear waits queued =
        ap not (are.1 ∙ sym (queued_held waits queued)) ∙ sym (ap (λ (b : Bool). not b && not (list_any (waits_for mode r) requests)) waits)
