-- How many requests there are, of a client and of all.
use Rattle.ata_types.specs.declared.limits.TheConstants.{MOST_UNANSWERED_OF_ALL_CLIENTS, MOST_UNANSWERED_OF_A_CLIENT}
use Rattle.std.proofs.Common.{◌≢◌, ◌++◌, ◌∙◌, Some, drop, get_or, map, set, sym, take, ℕ, zero, suc, ◌≡◌, ◌<◌, ◌≤◌, ◌+◌, ◌*◌, ◌==◌, ◌⊎◌, Bool, true, false, cond, List, [], ◌∷◌, length, refl, ap, arith, ⊎_elim, inl, inr, ltb-true, lt-ltb, eq-eqb}
use Rattle.std.specs.Prelude.{nat_lt}
use Rattle.std.specs.List.{All, count_by, remove, slice_get}
use Rattle.std.proofs.Math.Seq.{drop-cons}
use Rattle.std.proofs.lemmas.List.{length-set, get_or-set_same, get_or-set_other, take-append-drop}
use Rattle.std.proofs.lemmas.Option.{slice_get_within, get_or_from_slice_get}
use Rattle.ata_types.specs.declared.request.RequestId.{RequestId}
use Rattle.std.proofs.lemmas.Bool.{false≢true, cases_eq, ne_eqb}
use Rattle.std.proofs.lemmas.List.Elements.{All-head, All-tail}
use Rattle.request_queue.specs.ClientCounts.{AreClientCounts}
use Rattle.request_queue.specs.BookEntries.{BookEntry, update_if_id, has_id, entry_count_of_client}
use Rattle.request_queue.specs.declared.PendingRequest.{PendingRequest}
use Rattle.request_queue.proofs.Members.{count_append, count_cons, count_map}

-- those that pass one of two tests are no more than those that pass each
no_more : {X : Type 0} (p q r : X → Bool) (xs : List X) → ((x : X) → r x ≡ true → (p x ≡ true) ⊎ (q x ≡ true)) → count_by r xs ≤ count_by p xs + count_by q xs
no_more p q r [] either = omega arith
no_more p q r (x ∷ xs) either =
    let rest = no_more p q r xs either in
    let head = head_of (p x) (q x) (r x) (either x) in
    omega (arith, rest, head, count_cons p x xs, count_cons q x xs, count_cons r x xs)
  where
    head_of : (a b c : Bool) → (c ≡ true → (a ≡ true) ⊎ (b ≡ true)) → cond {A = ℕ} c 1 0 ≤ cond {A = ℕ} a 1 0 + cond {A = ℕ} b 1 0
    head_of a b false f = omega arith
    head_of true b true f = omega arith
    head_of false true true f = omega arith
    head_of false false true f = ⊎_elim (λ h. absurd (false≢true h)) (λ h. absurd (false≢true h)) (f refl)

-- how many are of clients below this one
abbrev below : List BookEntry → ℕ → ℕ
below book n = count_by (λ e. nat_lt e.request.client.0 n) book

one_further : (book : List BookEntry) (n : ℕ) → below book (suc n) ≤ below book n + entry_count_of_client book n
one_further book n = no_more (λ e. nat_lt e.request.client.0 n) (λ e. e.request.client.0 == n) (λ e. nat_lt e.request.client.0 (suc n)) book (λ e less.
    let lt = ltb-true e.request.client.0 (suc n) less in
    ⊎_elim
    (λ same. inr (eq-eqb e.request.client.0 n same))
    (λ other. inl (lt-ltb e.request.client.0 n (omega (arith, lt, other))))
    (cases_eq e.request.client.0 n))

none_below : (book : List BookEntry) → All (λ e. 1 ≤ e.request.client.0) book → below book 1 ≤ 0
none_below [] from = omega arith
none_below (e ∷ es) from =
    let rest = none_below es (All-tail (λ (x : BookEntry). 1 ≤ x.request.client.0) e es from) in
    let low = All-head (λ (x : BookEntry). 1 ≤ x.request.client.0) e es from in
    let head : cond {A = ℕ} (nat_lt e.request.client.0 1) 1 0 ≤ 0 = by (nat_lt e.request.client.0 1) (λ less. let lt = ltb-true e.request.client.0 1 less in absurd (omega (arith, lt, low))) in
    omega (arith, rest, head, count_cons (λ (x : BookEntry). nat_lt x.request.client.0 1) e es)
  where
    by : (b : Bool) → (b ≡ true → ⊥) → cond {A = ℕ} b 1 0 ≤ 0
    by true none = absurd (none refl)
    by false none = omega arith

all_below : (book : List BookEntry) (n : ℕ) → All (λ e. e.request.client.0 < n) book → length book ≤ below book n
all_below [] n to = omega arith
all_below (e ∷ es) n to =
    let rest = all_below es n (All-tail (λ (x : BookEntry). x.request.client.0 < n) e es to) in
    let head : cond {A = ℕ} (nat_lt e.request.client.0 n) 1 0 ≡ 1 = ap (λ (b : Bool). cond {A = ℕ} b 1 0) (lt-ltb e.request.client.0 n (All-head (λ (x : BookEntry). x.request.client.0 < n) e es to)) in
    omega (arith, rest, head, count_cons (λ (x : BookEntry). nat_lt x.request.client.0 n) e es)

module _ (book : List BookEntry) (from : All (λ e. 1 ≤ e.request.client.0) book) (few : (client : ℕ) → entry_count_of_client book client ≤ MOST_UNANSWERED_OF_A_CLIENT) where
  at_most : (n : ℕ) → below book (suc n) ≤ 16 * n
  at_most zero = none_below book from
  at_most (suc n) = let rest = at_most n in let next = one_further book (suc n) in let f = few (suc n) in omega (arith, rest, next, f)

  less : (n client : ℕ) → 1 ≤ client → client ≤ n → entry_count_of_client book client < MOST_UNANSWERED_OF_A_CLIENT → below book (suc n) < 16 * n
  less zero client low high has_room = absurd (omega (arith, low, high))
  less (suc n) client low high has_room =
      let next = one_further book (suc n) in
      ⊎_elim
      (λ (same : client ≡ suc n).
      let rest = at_most n in
      let here = ap (λ (k : ℕ). entry_count_of_client book k) same in
      omega (arith, rest, next, here, has_room))
      (λ other.
      let rest = less n client low (omega (arith, high, other)) has_room in
      let f = few (suc n) in
      omega (arith, rest, next, f))
      (cases_eq client (suc n))

  pub fits : (client : ℕ) → All (λ e. e.request.client.0 ≤ 8) book → 1 ≤ client → client ≤ 8 → entry_count_of_client book client < MOST_UNANSWERED_OF_A_CLIENT → length book < MOST_UNANSWERED_OF_ALL_CLIENTS
  fits client to low high has_room =
      let all = all_below book 9 (λ k d small. let t = to k d small in omega (arith, t)) in
      let l = less 8 client low high has_room in
      omega (arith, all, l)

-- so there are 128 at most
pub all_fit : (book : List BookEntry) → All (λ e. 1 ≤ e.request.client.0) book → ((client : ℕ) → entry_count_of_client book client ≤ MOST_UNANSWERED_OF_A_CLIENT) → All (λ e. e.request.client.0 ≤ 8) book → length book ≤ MOST_UNANSWERED_OF_ALL_CLIENTS
all_fit book from few to =
    let all = all_below book 9 (λ k d small. let t = to k d small in omega (arith, t)) in
    let most = at_most book from few 8 in
    omega (arith, all, most)

-- ---- the counts that a book notes

none_counted : (client : ℕ) (es : List BookEntry) → 9 ≤ client → All (λ e. e.request.client.0 ≤ 8) es → entry_count_of_client es client ≡ 0
none_counted client [] high to = refl
none_counted client (e ∷ es) high to =
    let rest = none_counted client es high (All-tail (λ (x : BookEntry). x.request.client.0 ≤ 8) e es to) in
    let low = All-head (λ (x : BookEntry). x.request.client.0 ≤ 8) e es to in
    let other : (e.request.client.0 == client) ≡ false = ne_eqb e.request.client.0 client (λ same. let f : ⊥ = omega (arith, same, low, high) in f) in
    let none : ◌≡◌ {A = ℕ} (cond (e.request.client.0 == client) 1 0) 0 = ap (λ (b : Bool). cond {A = ℕ} b 1 0) other in
    omega (arith, rest, none, count_cons (λ (x : BookEntry). x.request.client.0 == client) e es)

-- one beyond the last number has none
pub beyond : (client : ℕ) (es : List BookEntry) (counts : List ℕ) → AreClientCounts es counts → length counts ≤ client → All (λ e. e.request.client.0 ≤ 8) es → entry_count_of_client es client ≡ 0
beyond client es counts are high to = let n = are.nine_counts in none_counted client es (omega (arith, n, high)) to

-- a client's count changes alone
set_counts : (old new : List BookEntry) (counts : List ℕ) (client count : ℕ) → AreClientCounts old counts → client < 9 → count ≡ entry_count_of_client new client
    → ((other : ℕ) → other ≢ client → entry_count_of_client new other ≡ entry_count_of_client old other) → AreClientCounts new (set counts client count)
set_counts old new counts client count are lt its others = record {
  nine_counts = length-set counts client count ∙ are.nine_counts;
  count_of_each = λ other small. elim (cases_eq other client) [
    | inl e ↦ let n = are.nine_counts in ap (λ (k : ℕ). get_or (set counts client count) k 0) e ∙ (get_or-set_same counts client count 0 (omega (arith, n, lt)) ∙ (its ∙ ap (entry_count_of_client new) (sym e)))
    | inr ne ↦ get_or-set_other counts client other count 0 ne ∙ (are.count_of_each other small ∙ sym (others other ne))
  ];
}

pub one_counted : (es : List BookEntry) (e : BookEntry) (counts : List ℕ) (count : ℕ) → AreClientCounts es counts → e.request.client.0 < 9 → count ≡ entry_count_of_client es e.request.client.0 + 1
    → AreClientCounts (es ++ e ∷ []) (set counts e.request.client.0 count)
one_counted es e counts count are lt is = set_counts es (es ++ e ∷ []) counts e.request.client.0 count are lt
    (let m = more e.request.client.0 in let one : ◌≡◌ {A = ℕ} (cond (e.request.client.0 == e.request.client.0) 1 0) 1 = ap (λ (b : Bool). cond {A = ℕ} b 1 0) (eq-eqb e.request.client.0 e.request.client.0 refl) in omega (arith, is, m, one))
    (λ other ne. let m = more other in let none : ◌≡◌ {A = ℕ} (cond (e.request.client.0 == other) 1 0) 0 = ap (λ (b : Bool). cond {A = ℕ} b 1 0) (ne_eqb e.request.client.0 other (λ same. ne (sym same))) in omega (arith, m, none))
  where
    more : (client : ℕ) → entry_count_of_client (es ++ e ∷ []) client ≡ entry_count_of_client es client + cond {A = ℕ} (e.request.client.0 == client) 1 0
    more client =
        let p : BookEntry → Bool = λ x. x.request.client.0 == client in
        let a = count_append p es (e ∷ []) in
        let b = count_cons p e [] in
        omega (arith, a, b)

pub one_fewer : (es : List BookEntry) (e : BookEntry) (i : ℕ) → slice_get es i ≡ Some e → (client : ℕ) → entry_count_of_client es client ≡ entry_count_of_client (remove es i) client + cond {A = ℕ} (e.request.client.0 == client) 1 0
one_fewer es e i update_if_id client =
    let p : BookEntry → Bool = λ x. x.request.client.0 == client in
    let whole = ap (count_by p) (sym (take-append-drop i es)) in
    let front = count_append p (take i es) (drop i es) in
    let here = ap (count_by p) (drop-cons es i e (slice_get_within es i e update_if_id)) in
    let head = count_cons p (get_or es i e) (drop (suc i) es) in
    let same : ◌≡◌ {A = ℕ} (cond (p (get_or es i e)) 1 0) (cond (p e) 1 0) = ap (λ (y : BookEntry). cond {A = ℕ} (p y) 1 0) (get_or_from_slice_get es i e e update_if_id) in
    let rest = count_append p (take i es) (drop (suc i) es) in
    omega (arith, whole, front, here, head, same, rest)

-- a request of its client is counted
pub is_counted : (es : List BookEntry) (e : BookEntry) (i : ℕ) → slice_get es i ≡ Some e → 1 ≤ entry_count_of_client es e.request.client.0
is_counted es e i update_if_id =
    let m = one_fewer es e i update_if_id e.request.client.0 in
    let one : ◌≡◌ {A = ℕ} (cond (e.request.client.0 == e.request.client.0) 1 0) 1 = ap (λ (b : Bool). cond {A = ℕ} b 1 0) (eq-eqb e.request.client.0 e.request.client.0 refl) in
    omega (arith, m, one)

pub one_uncounted : (es : List BookEntry) (e : BookEntry) (i : ℕ) (counts : List ℕ) (count : ℕ) → AreClientCounts es counts → slice_get es i ≡ Some e → e.request.client.0 < 9
    → count + 1 ≡ entry_count_of_client es e.request.client.0 → AreClientCounts (remove es i) (set counts e.request.client.0 count)
one_uncounted es e i counts count are update_if_id lt is = set_counts es (remove es i) counts e.request.client.0 count are lt
    (let m = one_fewer es e i update_if_id e.request.client.0 in let one : ◌≡◌ {A = ℕ} (cond (e.request.client.0 == e.request.client.0) 1 0) 1 = ap (λ (b : Bool). cond {A = ℕ} b 1 0) (eq-eqb e.request.client.0 e.request.client.0 refl) in omega (arith, is, m, one))
    (λ other ne. let m = one_fewer es e i update_if_id other in let none : ◌≡◌ {A = ℕ} (cond (e.request.client.0 == other) 1 0) 0 = ap (λ (b : Bool). cond {A = ℕ} b 1 0) (ne_eqb e.request.client.0 other (λ same. ne (sym same))) in omega (arith, m, none))

-- a change that leaves each request's client leaves the counts
changed_counts : (es : List BookEntry) (g : BookEntry → BookEntry) (counts : List ℕ) → ((e : BookEntry) → (g e).request.client.0 ≡ e.request.client.0) → AreClientCounts es counts → AreClientCounts (map g es) counts
changed_counts es g counts same are = record {
  nine_counts = are.nine_counts;
  count_of_each = λ client lt. are.count_of_each client lt
      ∙ sym (count_map (λ (e : BookEntry). e.request.client.0 == client) (λ (e : BookEntry). e.request.client.0 == client) g es (λ y h. ap (λ (n : ℕ). n == client) (same y)));
}

either : (b : Bool) (x y : BookEntry) → x.request.client.0 ≡ y.request.client.0 → (cond b x y).request.client.0 ≡ y.request.client.0
either true x y same = same
either false x y same = refl

pub counts_at : (es : List BookEntry) (id : RequestId) (f : PendingRequest → PendingRequest) (counts : List ℕ) → ((r : PendingRequest) → (f r).client.0 ≡ r.client.0) → AreClientCounts es counts → AreClientCounts (map (update_if_id id f) es) counts
counts_at es id f counts same are = changed_counts es (update_if_id id f) counts (λ e. either (has_id id e) (record e { request = f e.request }) e (same e.request)) are

pub counts_changed : (es : List BookEntry) (f : PendingRequest → PendingRequest) (counts : List ℕ) → ((r : PendingRequest) → (f r).client.0 ≡ r.client.0) → AreClientCounts es counts → AreClientCounts (map (λ (e : BookEntry). record e { request = f e.request }) es) counts
counts_changed es f counts same are = changed_counts es (λ (e : BookEntry). record e { request = f e.request }) counts (λ e. same e.request) are
