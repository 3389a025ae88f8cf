-- What holds of the book and its requests after every history: their order, their number, their issues, their owners.
use Rattle.std.proofs.Common.{◌≡◌, ℕ, ◌<◌, ◌≤◌, Bool, true, false, cond, not, ◌&&◌, ◌==◌, List, [], ◌∷◌, ◌++◌, length, map, suc, Option, Some, None, inl, inr, ⊎_elim, refl, sym, ap, ◌∙◌, subst, arith, eqb-true, le_refl}
use Rattle.std.proofs.lemmas.Bool.{cases_eq, cases_Bool, and_parts, and_from, cond-true, false≢true, not-true, both_ways, false_from_ne_true, or_left}
use Rattle.std.specs.List.{Contains}
use Rattle.ata_types.specs.declared.limits.TheConstants.{MOST_UNANSWERED_OF_A_CLIENT}
use Rattle.ata_types.specs.declared.Port.{Port}
use Rattle.ata_types.specs.declared.request.ClientId.{ClientId}
use Rattle.ata_types.specs.declared.request.RequestId.{RequestId}
use Rattle.ata_types.specs.declared.refusal.FrameFault.TheVariants.{FrameForeign}
use Rattle.ata_types.specs.declared.refusal.Rule.TheVariants.{Frames}
use Rattle.block_machine.specs.declared.due.QueueMode.{QueueMode}
use Rattle.block_machine.specs.declared.due.Unanswered.{Unanswered}
use Rattle.block_machine.specs.DueRequests.{IsDue, IsInOrder, is_plain, issued_count}
use Rattle.block_machine.specs.State.{Accepted, Pending, Machine, nth_frame, unanswered}
use Rattle.block_machine.specs.Steps.{Step, Accept, Issue, Touch, End, Age, WaitAgain, Answer, Revoke, Release, Unplug, PlugDisk, Store, Load, IsEnabled, IsInBookOrKept, after_step, update_pending, without_pending, newly_issued, touch, mark_ended, requeued, aged_pending, newly_accepted, is_kept_at_answer, unanswered_count}
use Rattle.block_machine.specs.Events.{AllEnabled}
use Rattle.block_machine.specs.Expected.{after, IsInitial}
use Rattle.block_machine.specs.Confinement.{WasAccepted, KeepsLimitsAndHoldsOwnFrames}
use Rattle.block_machine.proofs.Members.{contains_none, contains_here, contains_there, contains_cases, map_in, into_map, at_cases, without_in, append_in}
use Rattle.block_machine.proofs.Sound.{Sound, KeepsRequest}
use Rattle.block_machine.proofs.Keeps.{at_keeps, older_keeps, older_issued, get_frame}
use Rattle.block_machine.proofs.Runs.{traced, nobody}
use Rattle.block_machine.proofs.Accepts.{living_accepted}
use Rattle.block_machine.proofs.Configured.{owner_step, all_few}
use Rattle.block_machine.proofs.Order.{Ordered, in_from, from_in, from_ordered}
use Rattle.block_machine.proofs.Counting.{count_cons, count_append, count_map, count_none, unheld}

-- The book stays in order of acceptance.

order_map : (f : Pending → Pending) (es : List Pending) → KeepsRequest f → Ordered (map unanswered es) → Ordered (map unanswered (map f es))
order_map f [] k o = tt
order_map f (x ∷ xs) k o = (
  (λ later h.
      let r = map_in unanswered (map f xs) later (from_in later (map unanswered (map f xs)) h) in
      let q = map_in f xs r.0 r.1 in
      let a : later.id.0 ≡ q.0.request.id.0 = ap (λ (y : Unanswered). y.id.0) r.2 ∙ ap (λ (y : Pending). y.request.id.0) q.2 ∙ ap (λ (j : Accepted). j.id.0) (k q.0) in
      let b : (f x).request.id.0 ≡ x.request.id.0 = ap (λ (j : Accepted). j.id.0) (k x) in
      let c = o.0 (unanswered q.0) (in_from (map unanswered xs) (unanswered q.0) (into_map unanswered xs q.0 q.1)) in omega (arith, a, b, c)),
  order_map f xs k o.1,
)

order_without : (id : RequestId) (es : List Pending) → Ordered (map unanswered es) → Ordered (map unanswered (without_pending id es))
order_without id [] o = tt
order_without id (x ∷ xs) o = go (x.request.id.0 == id.0) (order_without id xs o.1)
  where
    go : (b : Bool) → Ordered (map unanswered (without_pending id xs)) → Ordered (map unanswered (cond (not b) (x ∷ without_pending id xs) (without_pending id xs)))
    go true rest = rest
    go false rest = (
      (λ later h.
          let r = map_in unanswered (without_pending id xs) later (from_in later (map unanswered (without_pending id xs)) h) in
          let c = o.0 (unanswered r.0) (in_from (map unanswered xs) (unanswered r.0) (into_map unanswered xs r.0 (without_in id xs r.0 r.1).0)) in
          subst (λ (y : Unanswered). x.request.id.0 < y.id.0) (sym r.2) c),
      rest,
    )

order_append : (es : List Pending) (x : Pending) → Ordered (map unanswered es) → ((e : Pending) → Contains es e → e.request.id.0 < x.request.id.0) → Ordered (map unanswered (es ++ x ∷ []))
order_append [] x o less = ((λ later h. absurd h), tt)
order_append (y ∷ ys) x o less = (
  (λ later h.
      let r = map_in unanswered (ys ++ x ∷ []) later (from_in later (map unanswered (ys ++ x ∷ [])) h) in
      subst (λ (z : Unanswered). y.request.id.0 < z.id.0) (sym r.2) (⊎_elim
      (λ (i : Contains ys r.0). o.0 (unanswered r.0) (in_from (map unanswered ys) (unanswered r.0) (into_map unanswered ys r.0 i)))
      (λ (p : r.0 ≡ x). subst (λ (z : Pending). y.request.id.0 < z.request.id.0) (sym p) (less y (contains_here y ys y refl)))
      (append_in ys x r.0 r.1))),
  order_append ys x o.1 (λ e i. less e (contains_there y ys e i)),
)

order_step : (m : Machine) (step : Step) → IsEnabled m step → Sound m → Ordered (map unanswered m.book) → Ordered (map unanswered (after_step m step).book)
order_step m (Accept r) may s o = order_append m.book (newly_accepted r) o (λ e i. let b = s.below e (inl i) in let q = may.id_is_next in omega (arith, b, q))
order_step m (Issue mode e) may s o = order_map (update_pending e.request.id newly_issued) m.book (at_keeps e.request.id newly_issued (λ x. refl)) o
order_step m (Touch e i block) may s o = order_map (update_pending e.request.id (touch i)) m.book (at_keeps e.request.id (touch i) (λ x. refl)) o
order_step m (End e) may s o = order_map (update_pending e.request.id mark_ended) m.book (at_keeps e.request.id mark_ended (λ x. refl)) o
order_step m (Age ready) may s o = order_map (aged_pending ready) m.book (older_keeps ready) o
order_step m (WaitAgain e) may s o = order_map (update_pending e.request.id requeued) m.book (at_keeps e.request.id requeued (λ x. refl)) o
order_step m (Answer e outcome) may s o = order_without e.request.id m.book o
order_step m _ may s o = o

ordered : (start : Machine) (h : List Step) → IsInitial start → AllEnabled start h → Ordered (map unanswered (after start h).book)
ordered start [] s enabled = subst (λ (es : List Pending). Ordered (map unanswered es)) (sym s.book_is_empty) tt
ordered start (step ∷ past) s enabled = order_step (after start past) step enabled.1 (traced start past s enabled.0).sound (ordered start past s enabled.0)

pub law_book_in_order : (start : Machine) (h : List Step) → IsInitial start → AllEnabled start h → IsInOrder (map unanswered (after start h).book)
law_book_in_order start h s enabled = from_ordered (map unanswered (after start h).book) (ordered start h s enabled)

-- Issues.

pub older_issues : (ready : Port → Bool) (e : Pending) → (aged_pending ready e).issue_count ≡ e.issue_count
older_issues ready e = elim (e.issued && ready e.request.port) as (λ b. (cond b (record e { age = suc e.age }) e).issue_count ≡ e.issue_count) [ true ↦ refl | false ↦ refl ]

-- a request that is issued was issued one to four times; one that waits may still be issued
record IsCounted (e : Pending) : Type 0 where
  some : e.issued ≡ true → 1 ≤ e.issue_count
  most : e.issue_count ≤ 4
  left : e.issued ≡ false → e.issue_count < 4

abbrev AllCounted : Machine → Type 0
AllCounted m = (e : Pending) → IsInBookOrKept m e → IsCounted e

-- a change of one request that keeps its count
counted_at : (id : RequestId) (f : Pending → Pending) (es : List Pending) → ((o : Pending) → Contains es o → IsCounted o)
    → ((o : Pending) → Contains es o → o.request.id.0 ≡ id.0 → IsCounted (f o)) → (x : Pending) → Contains (map (update_pending id f) es) x → IsCounted x
counted_at id f es c now x h =
    let r = map_in (update_pending id f) es x h in
    ⊎_elim
    (λ p. subst IsCounted (sym (r.2 ∙ p.1)) (now r.0 r.1 p.0))
    (λ p. subst IsCounted (sym (r.2 ∙ p.1)) (c r.0 r.1))
    (at_cases id f r.0)

counted_step : (m : Machine) (step : Step) → IsEnabled m step → Sound m → AllCounted m → AllCounted (after_step m step)
counted_step m (Accept r) may s c x (inl h) = ⊎_elim
    (λ i. c x (inl i))
    (λ p. subst IsCounted (sym p) (record { some = λ t. absurd (false≢true t); most = omega arith; left = λ _. omega arith }))
    (append_in m.book (newly_accepted r) x h)
counted_step m (Accept r) may s c x (inr h) = c x (inr h)
counted_step m (Issue mode e) may s c x (inl h) = counted_at e.request.id newly_issued m.book (λ o i. c o (inl i))
    (λ o i id.
    let left = (c o (inl i)).left (subst (λ (y : Pending). y.issued ≡ false) (s.one e o may.0 i (sym id)) (not-true _ (and_parts _ _ may.1.waits_and_nothing_blocks).0)) in
    record { some = λ _. omega arith; most = omega (arith, left); left = λ t. absurd (false≢true (sym t)) }) x h
counted_step m (Issue mode e) may s c x (inr h) = c x (inr h)
counted_step m (Touch e i block) may s c x (inl h) = counted_at e.request.id (touch i) m.book (λ o k. c o (inl k)) (λ o k id. let q = c o (inl k) in record { some = q.some; most = q.most; left = q.left }) x h
counted_step m (Touch e i block) may s c x (inr h) = counted_at e.request.id (touch i) m.kept (λ o k. c o (inr k)) (λ o k id. let q = c o (inr k) in record { some = q.some; most = q.most; left = q.left }) x h
counted_step m (End e) may s c x (inl h) = counted_at e.request.id mark_ended m.book (λ o k. c o (inl k)) (λ o k id. let q = c o (inl k) in record { some = q.some; most = q.most; left = q.left }) x h
counted_step m (End e) may s c x (inr h) = counted_at e.request.id mark_ended m.kept (λ o k. c o (inr k)) (λ o k id. let q = c o (inr k) in record { some = q.some; most = q.most; left = q.left }) x h
counted_step m (Age ready) may s c x (inl h) =
    let r = map_in (aged_pending ready) m.book x h in
    let q = c r.0 (inl r.1) in
    let n : x.issue_count ≡ r.0.issue_count = ap (λ (y : Pending). y.issue_count) r.2 ∙ older_issues ready r.0 in
    let t : x.issued ≡ r.0.issued = ap (λ (y : Pending). y.issued) r.2 ∙ older_issued ready r.0 in
    record {
      some = λ i. let a = q.some (sym t ∙ i) in omega (arith, a, n);
      most = let a = q.most in omega (arith, a, n);
      left = λ i. let a = q.left (sym t ∙ i) in omega (arith, a, n);
    }
counted_step m (Age ready) may s c x (inr h) = c x (inr h)
counted_step m (WaitAgain e) may s c x (inl h) = counted_at e.request.id requeued m.book (λ o k. c o (inl k))
    (λ o k id.
    let few : o.issue_count < 4 = subst (λ (y : Pending). y.issue_count < 4) (s.one e o may.0 k (sym id)) may.2 in
    record { some = λ t. absurd (false≢true t); most = omega (arith, few); left = λ _. few }) x h
counted_step m (WaitAgain e) may s c x (inr h) = c x (inr h)
counted_step m (Answer e outcome) may s c x (inl h) = c x (inl (without_in e.request.id m.book x h).0)
counted_step m (Answer e outcome) may s c x (inr h) = go (is_kept_at_answer e outcome) h
  where
    go : (b : Bool) → Contains (cond b (e ∷ m.kept) m.kept) x → IsCounted x
    go true k = ⊎_elim (λ p. subst IsCounted (sym p) (c e (inl may.0))) (λ i. c x (inr i)) (contains_cases e m.kept x k)
    go false k = c x (inr k)
counted_step m (Revoke client number) may s c x l = c x l
counted_step m Release may s c x (inl h) = c x (inl h)
counted_step m Release may s c x (inr h) = absurd (contains_none x h)
counted_step m (Unplug port) may s c x l = c x l
counted_step m (PlugDisk port id size disk) may s c x l = c x l
counted_step m (Store client frame offset bytes) may s c x l = c x l
counted_step m (Load client frame offset bytes) may s c x l = c x l

all_counted : (start : Machine) (h : List Step) → IsInitial start → AllEnabled start h → AllCounted (after start h)
all_counted start [] s enabled e l = absurd (nobody start s e l)
all_counted start (step ∷ past) s enabled e l = counted_step (after start past) step enabled.1 (traced start past s enabled.0).sound (all_counted start past s enabled.0) e l

-- The number of a client's unanswered requests.

same_count : (c : ClientId) (f : Pending → Pending) (es : List Pending) → KeepsRequest f → unanswered_count (map f es) c ≡ unanswered_count es c
same_count c f es k = count_map (λ e. e.request.asked.client.0 == c.0) (λ e. e.request.asked.client.0 == c.0) f es (λ y h. ap (λ (r : Accepted). r.asked.client.0 == c.0) (k y))

fewer_without : (c : ClientId) (id : RequestId) (es : List Pending) → unanswered_count (without_pending id es) c ≤ unanswered_count es c
fewer_without c id [] = le_refl _
fewer_without c id (x ∷ xs) = go (x.request.id.0 == id.0) (fewer_without c id xs)
  where
    go : (b : Bool) → unanswered_count (without_pending id xs) c ≤ unanswered_count xs c → unanswered_count (cond (not b) (x ∷ without_pending id xs) (without_pending id xs)) c ≤ unanswered_count (x ∷ xs) c
    go true a = omega (arith, a, count_cons (λ e. e.request.asked.client.0 == c.0) x xs)
    go false a = omega (arith, a, count_cons (λ e. e.request.asked.client.0 == c.0) x xs, count_cons (λ e. e.request.asked.client.0 == c.0) x (without_pending id xs))

few_step : (m : Machine) (step : Step) → IsEnabled m step → (c : ClientId) → unanswered_count m.book c ≤ MOST_UNANSWERED_OF_A_CLIENT → unanswered_count (after_step m step).book c ≤ MOST_UNANSWERED_OF_A_CLIENT
few_step m (Accept r) may c le =
    let more = count_append (λ (e : Pending). e.request.asked.client.0 == c.0) m.book (newly_accepted r ∷ []) in
    let last = count_cons (λ (e : Pending). e.request.asked.client.0 == c.0) (newly_accepted r) [] in
    ⊎_elim
    (λ (t : (r.asked.client.0 == c.0) ≡ true).
    let one : ◌≡◌ {A = ℕ} (cond (r.asked.client.0 == c.0) 1 0) 1 = ap (λ (b : Bool). cond {A = ℕ} b 1 0) t in
    let same : r.asked.client ≡ c = ap (λ n. record { 0 = n }) (eqb-true r.asked.client.0 c.0 t) in
    let few : unanswered_count m.book c < MOST_UNANSWERED_OF_A_CLIENT = subst (λ (x : ClientId). unanswered_count m.book x < MOST_UNANSWERED_OF_A_CLIENT) same may.client_has_room in
    omega (arith, more, last, one, few))
    (λ (f : (r.asked.client.0 == c.0) ≡ false).
    let none : ◌≡◌ {A = ℕ} (cond (r.asked.client.0 == c.0) 1 0) 0 = ap (λ (b : Bool). cond {A = ℕ} b 1 0) f in
    omega (arith, more, last, none, le))
    (cases_Bool (r.asked.client.0 == c.0))
few_step m (Issue mode e) may c le = let a = same_count c (update_pending e.request.id newly_issued) m.book (at_keeps e.request.id newly_issued (λ x. refl)) in omega (arith, a, le)
few_step m (Touch e i block) may c le = let a = same_count c (update_pending e.request.id (touch i)) m.book (at_keeps e.request.id (touch i) (λ x. refl)) in omega (arith, a, le)
few_step m (End e) may c le = let a = same_count c (update_pending e.request.id mark_ended) m.book (at_keeps e.request.id mark_ended (λ x. refl)) in omega (arith, a, le)
few_step m (Age ready) may c le = let a = same_count c (aged_pending ready) m.book (older_keeps ready) in omega (arith, a, le)
few_step m (WaitAgain e) may c le = let a = same_count c (update_pending e.request.id requeued) m.book (at_keeps e.request.id requeued (λ x. refl)) in omega (arith, a, le)
few_step m (Answer e outcome) may c le = let a = fewer_without c e.request.id m.book in omega (arith, a, le)
few_step m _ may c le = le

few : (start : Machine) (h : List Step) → IsInitial start → AllEnabled start h → (c : ClientId) → unanswered_count (after start h).book c ≤ MOST_UNANSWERED_OF_A_CLIENT
few start [] s enabled c = subst (λ (es : List Pending). unanswered_count es c ≤ MOST_UNANSWERED_OF_A_CLIENT) (sym s.book_is_empty) (omega arith)
few start (step ∷ past) s enabled c = few_step (after start past) step enabled.1 c (few start past s enabled.0 c)

-- Owners.

-- the owner that isn't another
pub owned : (o : Option ClientId) (c : ClientId) → ((o ≡ Some c → ⊥) → ⊥) → o ≡ Some c
owned None c h = absurd (h (λ p. none_some p))
  where
    none_some : None ≡ Some c → ⊥
    none_some p = cc
owned (Some d) c h = ⊎_elim
    (λ (e : d.0 ≡ c.0). ap (λ n. Some (record { 0 = n })) e)
    (λ (ne : d.0 ≡ c.0 → ⊥). absurd (h (λ p. ne (same_some p))))
    (cases_eq d.0 c.0)
  where
    same_some : Some d ≡ Some c → d.0 ≡ c.0
    same_some p = let e : d ≡ c = cc in ap (λ (x : ClientId). x.0) e

accepted_owned : (start : Machine) (h : List Step) (r : Accepted) → WasAccepted start h r → (i : ℕ) → i < length r.asked.frames.items → (after start h).owner (nth_frame r.asked.frames.items i) ≡ Some r.asked.client
accepted_owned start [] r w i lt = absurd w
accepted_owned start (step ∷ past) r (inl c) i lt = owner_step (after start past) step (nth_frame r.asked.frames.items i)
    ∙ owned _ r.asked.client (λ ne. c.1.breaks_no_rule (Frames (FrameForeign i)) (nth_frame r.asked.frames.items i, get_frame r.asked.frames.items i lt, ne))
accepted_owned start (step ∷ past) r (inr w) i lt = owner_step (after start past) step (nth_frame r.asked.frames.items i) ∙ accepted_owned start past r w i lt

-- all of these together
pub law_book_limits_hold_and_frames_are_lent : (start : Machine) (h : List Step) → IsInitial start → AllEnabled start h → KeepsLimitsAndHoldsOwnFrames (after start h)
law_book_limits_hold_and_frames_are_lent start h s enabled = record {
  clients_are_within_limit = few start h s enabled;
  book_is_bounded = all_few start h s enabled (few start h s enabled);
  issued_four_times_at_most = λ e l. (all_counted start h s enabled e l).most;
  issued_have_an_issue = λ e l t. (all_counted start h s enabled e l).some t;
  frames_are_lent = λ e l i lt. (traced start h s enabled).sound.lent e l i lt;
  frames_are_owned = λ e l i lt. accepted_owned start h e.request (living_accepted start h s enabled e l) i lt;
}

-- a request that is due finds a free slot, a plain one a port with nothing issued
pub finds_slot : (mode : QueueMode) (book : List Unanswered) (r : Unanswered) → IsDue mode book r
    → (is_plain mode r.op ≡ true → issued_count book r.port ≡ 0) × (is_plain mode r.op ≡ false → issued_count book r.port < mode.usable_slots)
finds_slot mode book r due = (
  (λ plain. count_none _ book (λ y k. false_from_ne_true _ (λ t.
      let p = and_parts (y.port.0 == r.port.0) y.issued t in
      both_ways _ (unheld mode book r due.waits_and_nothing_blocks y (from_in y book k))
      (and_from _ _ p.0 (cond-true (is_plain mode r.op) _ _ plain ∙ or_left _ _ p.1))))),
  (λ queued. let lt = due.slot_is_left queued in omega (arith, lt)),
)
