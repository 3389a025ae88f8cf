-- The issued requests that stand at the head, behind which the walk begins.
use Rattle.std.proofs.Common.{◌≡◌, ℕ, zero, suc, ◌<◌, ◌==◌, ◌&&◌, ◌||◌, Bool, true, false, not, cond, List, [], ◌∷◌, ◌++◌, length, map, take, get_or, Some, refl, sym, ap, ◌∙◌, subst, arith, eqb-true, inl, inr}
use Rattle.std.specs.List.{filter, slice_get}
use Rattle.std.proofs.lemmas.Bool.{and_parts, cases_lt, cond-false, not-true}
use Rattle.std.proofs.lemmas.List.{length_push, get_or_push, get_or_append_left}
use Rattle.ata_types.specs.declared.Port.{Port}
use Rattle.block_machine.specs.declared.due.QueueMode.{QueueMode}
use Rattle.block_machine.specs.declared.due.Unanswered.{Unanswered}
use Rattle.std.specs.List.{list_any}
use Rattle.std.specs.Prelude.{nat_lt}
use Rattle.block_machine.specs.DueRequests.{unblocked_ahead_count, free_slots, is_plain, waits_for}
use Rattle.request_queue.specs.BookEntries.{BookEntry, unanswered_of}
use Rattle.request_queue.specs.RequestSlab.{unanswered_at}
use Rattle.request_queue.specs.DueWalk.{AreQueuedIssuedAhead}
use Rattle.request_queue.proofs.Own.{asked_more}
use Rattle.request_queue.proofs.Walk.{due_test, ids_so_far}

-- ---- one more is looked at

module _ (mode : QueueMode) (requests : List Unanswered) (r : Unanswered) where
  stay_ahead : (n : ℕ) → AreQueuedIssuedAhead mode requests n → AreQueuedIssuedAhead mode (requests ++ r ∷ []) n
  stay_ahead n is = record {
    leading_is_in_range = let long = length_push requests r in let w = is.leading_is_in_range in omega (arith, long, w);
    leading_are_issued = λ k d lt. let w = is.leading_is_in_range in ap (λ (u : Unanswered). u.issued) (get_or_append_left requests (r ∷ []) d k (omega (arith, lt, w))) ∙ is.leading_are_issued k d lt;
    leading_are_queued = λ k d lt. let w = is.leading_is_in_range in ap (λ (u : Unanswered). is_plain mode u.op) (get_or_append_left requests (r ∷ []) d k (omega (arith, lt, w))) ∙ is.leading_are_queued k d lt;
  }

  one_ahead : (n : ℕ) → AreQueuedIssuedAhead mode requests n → n ≡ length requests → r.issued ≡ true → is_plain mode r.op ≡ false → AreQueuedIssuedAhead mode (requests ++ r ∷ []) (suc n)
  one_ahead n is all issued queued = record {
    leading_is_in_range = let long = length_push requests r in omega (arith, long, all);
    leading_are_issued = λ k d lt. elim (cases_lt k n) [
      | inl low ↦ (stay_ahead n is).leading_are_issued k d low
      | inr high ↦ ap (λ (u : Unanswered). u.issued) (get_or_push requests r d k (omega (arith, lt, high, all))) ∙ issued
    ];
    leading_are_queued = λ k d lt. elim (cases_lt k n) [
      | inl low ↦ (stay_ahead n is).leading_are_queued k d low
      | inr high ↦ ap (λ (u : Unanswered). is_plain mode u.op) (get_or_push requests r d k (omega (arith, lt, high, all))) ∙ queued
    ];
  }

  ahead_with : (n next : ℕ) → AreQueuedIssuedAhead mode requests n → (b : Bool) → (n == length requests && (r.issued && not (is_plain mode r.op))) ≡ b → next ≡ cond b (suc n) n
      → AreQueuedIssuedAhead mode (requests ++ r ∷ []) next
  ahead_with n next is true leads more =
      let all = and_parts (n == length requests) _ leads in
      let its = and_parts r.issued _ all.1 in
      rw more (one_ahead n is (eqb-true n (length requests) all.0) its.0 (not-true (is_plain mode r.op) its.1))
  ahead_with n next is false leads more = rw more (stay_ahead n is)

pub leads_more : (mode : QueueMode) (es : List BookEntry) (places : List ℕ) (i : ℕ) (r : Unanswered) → slice_get (unanswered_of es) i ≡ Some r → (n next : ℕ) → AreQueuedIssuedAhead mode (unanswered_at es places) n
    → next ≡ cond (n == length (unanswered_at es places) && (r.issued && not (is_plain mode r.op))) (suc n) n → AreQueuedIssuedAhead mode (unanswered_at es (places ++ i ∷ [])) next
leads_more mode es places i r at n next is more =
    subst (λ (xs : List Unanswered). AreQueuedIssuedAhead mode xs next) (sym (asked_more es places i r at (λ (u : Unanswered). u.issued))) (ahead_with mode (unanswered_at es places) r n next is _ refl more)

-- ---- none of them is due

none_passes : (p : Unanswered → Bool) (xs : List Unanswered) (n : ℕ) → ((k : ℕ) (d : Unanswered) → k < n → k < length xs → p (get_or xs k d) ≡ false) → filter p (take n xs) ≡ []
none_passes p [] zero fails = refl
none_passes p [] (suc n) fails = refl
none_passes p (x ∷ xs) zero fails = refl
none_passes p (x ∷ xs) (suc n) fails =
    cond-false (p x) (x ∷ filter p (take n xs)) (filter p (take n xs)) (fails 0 x (omega arith) (omega arith))
    ∙ none_passes p xs n (λ k d lt short. fails (suc k) d (omega (arith, lt)) (omega (arith, short)))

-- so the walk has nothing yet where it begins
pub none_ahead : (mode : QueueMode) (port : Port) (book : List Unanswered) (n : ℕ) → AreQueuedIssuedAhead mode book n → ids_so_far mode port book n ≡ []
none_ahead mode port book n is =
    ap (λ (xs : List Unanswered). map (λ (x : Unanswered). x.id) xs) (none_passes (due_test mode port book) book n (λ k d lt short. isnt_due (get_or book k d) (is.leading_are_issued k d lt)))
  where
    and_false : (b : Bool) → (b && false) ≡ false
    and_false true = refl
    and_false false = refl

    isnt_due : (x : Unanswered) → x.issued ≡ true → due_test mode port book x ≡ false
    isnt_due x issued = ap (λ (b : Bool). (x.port.0 == port.0) && b) (ap (λ (b : Bool). (not b && not (list_any (waits_for mode x) book)) && (is_plain mode x.op || nat_lt (unblocked_ahead_count mode book x) (free_slots mode book x.port))) issued) ∙ and_false (x.port.0 == port.0)
