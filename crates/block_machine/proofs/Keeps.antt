-- Every step keeps the machine sound.
use Rattle.std.proofs.Common.{◌≡◌, ◌⊎◌, ℕ, ◌*◌, ◌<◌, ◌≤◌, Bool, true, false, cond, ◌&&◌, ◌||◌, ◌==◌, ltb, List, [], ◌∷◌, length, map, Option, Some, None, IsSome, is_some, slice_get, suc, zero, inl, inr, ⊎_elim, refl, sym, ap, ◌∙◌, subst, arith, eqb-true, eq-eqb, ne_eqb, lt-ltb}
use Rattle.std.proofs.lemmas.Bool.{cases_eq, or_left, or_right, and_parts, and_from, cond-true, cond-false, false≢true, not-true, both_ways, false_from_ne_true}
use Rattle.std.proofs.lemmas.Option.{slice_get-get_or}
use Rattle.std.specs.List.{Contains, list_any}
use Rattle.ata_types.specs.declared.Port.{Port}
use Rattle.ata_types.specs.declared.request.Frame.{Frame}
use Rattle.ata_types.specs.declared.request.RequestId.{RequestId}
use Rattle.ata_types.specs.declared.request.Op.{Op}
use Rattle.ata_types.specs.declared.request.Op.TheVariants.{Read, Write, Trim, Flush}
use Rattle.ata_types.specs.declared.request.Outcome.{Outcome}
use Rattle.ata_types.specs.declared.request.Outcome.TheVariants.{Ok, DeviceError, Aborted, Unplugged, PortDead, Revoked}
use Rattle.ata_types.specs.declared.refusal.FrameFault.TheVariants.{FrameTwice, FrameLent}
use Rattle.ata_types.specs.declared.refusal.Rule.TheVariants.{FrameCount, Frames}
use Rattle.block_machine.specs.declared.due.QueueMode.{QueueMode}
use Rattle.block_machine.specs.declared.due.Unanswered.{Unanswered}
use Rattle.block_machine.specs.State.{Accepted, Pending, Machine, nth_frame, is_reader, unanswered, newly_unanswered}
use Rattle.block_machine.specs.Rules.{frame_count_for}
use Rattle.block_machine.specs.DueRequests.{IsDue, conflict_on_port_by_flush_or_overlap, waits_for, is_plain}
use Rattle.block_machine.specs.Steps.{Step, Accept, Issue, Touch, End, Age, WaitAgain, Answer, Revoke, Release, Unplug, PlugDisk, Store, Load, IsEnabled, MayAccept, NoneKept, after_step, update_pending, without_pending, IsInBookOrKept, IsIssuedOrKept, newly_issued, touch, mark_ended, requeued, aged_pending, newly_accepted, lend, unlend, unlend_all, is_lent_to, is_kept_at_answer}
use Rattle.block_machine.proofs.Members.{contains_none, contains_here, contains_there, contains_cases, map_in, into_map, at_cases, without_in, append_in, none_of}
use Rattle.block_machine.proofs.Sound.{Sound, Carries, IsChanged, KeepsRequest, IsLentAll, IsDistinct, lived, order_carried, carried}

-- a change of one request keeps every request
pub at_keeps : (id : RequestId) (f : Pending → Pending) → KeepsRequest f → KeepsRequest (update_pending id f)
at_keeps id f k e = ⊎_elim (λ p. ap (λ (x : Pending). x.request) p.1 ∙ k e) (λ p. ap (λ (x : Pending). x.request) p.1) (at_cases id f e)

pub at_quiet : (id : RequestId) (f : Pending → Pending) → ((e : Pending) → (f e).issued ≡ true → e.issued ≡ true) → (e : Pending) → (update_pending id f e).issued ≡ true → e.issued ≡ true
at_quiet id f q e h = ⊎_elim (λ p. q e (ap (λ (x : Pending). x.issued) (sym p.1) ∙ h)) (λ p. ap (λ (x : Pending). x.issued) (sym p.1) ∙ h) (at_cases id f e)

pub older_keeps : (ready : Port → Bool) → KeepsRequest (aged_pending ready)
older_keeps ready e = elim (e.issued && ready e.request.port) as (λ b. (cond b (record e { age = suc e.age }) e).request ≡ e.request) [ true ↦ refl | false ↦ refl ]

pub older_issued : (ready : Port → Bool) (e : Pending) → (aged_pending ready e).issued ≡ e.issued
older_issued ready e = elim (e.issued && ready e.request.port) as (λ b. (cond b (record e { age = suc e.age }) e).issued ≡ e.issued) [ true ↦ refl | false ↦ refl ]

pub older_touched : (ready : Port → Bool) (e : Pending) → (aged_pending ready e).touched ≡ e.touched
older_touched ready e = elim (e.issued && ready e.request.port) as (λ b. (cond b (record e { age = suc e.age }) e).touched ≡ e.touched) [ true ↦ refl | false ↦ refl ]

pub older_ended : (ready : Port → Bool) (e : Pending) → (aged_pending ready e).ended ≡ e.ended
older_ended ready e = elim (e.issued && ready e.request.port) as (λ b. (cond b (record e { age = suc e.age }) e).ended ≡ e.ended) [ true ↦ refl | false ↦ refl ]

same_all : (es : List Pending) → IsChanged (λ e. e) es es
same_all es e h = (e, h, refl)

-- no earlier request that conflicts with a due one is unanswered
pub due_order : (mode : QueueMode) (book : List Unanswered) (r a : Unanswered) → IsDue mode book r → Contains book a → a.id.0 < r.id.0 → conflict_on_port_by_flush_or_overlap a r ≡ true → ⊥
due_order mode book r a due h lt con =
    let port : (a.port.0 == r.port.0) ≡ true = (and_parts _ _ con).0 in
    let none : list_any (waits_for mode r) book ≡ false = not-true _ (and_parts _ _ due.waits_and_nothing_blocks).1 in
    let held : waits_for mode r a ≡ false = none_of (waits_for mode r) book a none h in
    let less : ltb a.id.0 r.id.0 ≡ true = lt-ltb a.id.0 r.id.0 lt in
    let holds : waits_for mode r a ≡ true = and_from _ _ port (go (is_plain mode r.op) less) in
    both_ways _ held holds
  where
    go : (b : Bool) → ltb a.id.0 r.id.0 ≡ true
        → cond b (a.issued || ltb a.id.0 r.id.0) ((is_plain mode a.op && a.issued) || (ltb a.id.0 r.id.0 && (is_plain mode a.op || conflict_on_port_by_flush_or_overlap a r))) ≡ true
    go true less = or_right _ _ less
    go false less = or_right _ _ (and_from _ _ less (or_right _ _ con))

-- ports, frames and ids of one number are one
pub same_port : (p q : Port) → p.0 ≡ q.0 → p ≡ q
same_port p q e = ap (λ n. record { 0 = n }) e

pub same_frame : (f g : Frame) → f.0 ≡ g.0 → f ≡ g
same_frame f g e = ap (λ n. record { 0 = n }) e

pub same_id : (i j : RequestId) → i.0 ≡ j.0 → i ≡ j
same_id i j e = ap (λ n. record { 0 = n }) e

conflict_port : (a b : Accepted) → conflict_on_port_by_flush_or_overlap (newly_unanswered a) (newly_unanswered b) ≡ true → a.port ≡ b.port
conflict_port a b con = same_port a.port b.port (eqb-true a.port.0 b.port.0 (and_parts _ _ con).0)

issue_carries : (m : Machine) (mode : QueueMode) (e : Pending) → Carries (update_pending e.request.id newly_issued) (λ x. x) m (after_step m (Issue mode e))
issue_carries m mode e = record {
  f_keeps = at_keeps e.request.id newly_issued (λ x. refl);
  g_keeps = λ x. refl;
  book = λ x h. map_in (update_pending e.request.id newly_issued) m.book x h;
  kept = same_all m.kept;
  next = refl;
  lent = λ x. refl;
}

keeps_issue : (m : Machine) (mode : QueueMode) (e : Pending) → Sound m → Contains m.book e → IsDue mode (map unanswered m.book) (unanswered e) → NoneKept m e.request.port → Sound (after_step m (Issue mode e))
keeps_issue m mode e s here due none = carried (update_pending e.request.id newly_issued) (λ x. x) m (after_step m (Issue mode e)) (issue_carries m mode e) order s
  where
    earlier : (a : Pending) → IsInBookOrKept m a → a.request.id.0 < e.request.id.0 → conflict_on_port_by_flush_or_overlap (newly_unanswered a.request) (newly_unanswered e.request) ≡ true → ⊥
    earlier a (inl h) lt con = due_order mode (map unanswered m.book) (unanswered e) (unanswered a) due (into_map unanswered m.book a h) lt con
    earlier a (inr h) lt con = none a h (conflict_port a.request e.request con)

    order : (x a : Pending) → IsIssuedOrKept (after_step m (Issue mode e)) x → IsInBookOrKept (after_step m (Issue mode e)) a → a.request.id.0 < x.request.id.0 → conflict_on_port_by_flush_or_overlap (newly_unanswered a.request) (newly_unanswered x.request) ≡ true → ⊥
    order x a (inr h) l lt con =
        let q = lived (update_pending e.request.id newly_issued) (λ x. x) m (after_step m (Issue mode e)) (issue_carries m mode e) a l in
        s.order x q.0 (inr h) q.1 (subst (λ (j : Accepted). j.id.0 < x.request.id.0) q.2 lt) (subst (λ (j : Accepted). conflict_on_port_by_flush_or_overlap (newly_unanswered j) (newly_unanswered x.request) ≡ true) q.2 con)
    order x a (inl h) l lt con =
        let q = lived (update_pending e.request.id newly_issued) (λ x. x) m (after_step m (Issue mode e)) (issue_carries m mode e) a l in
        let r = map_in (update_pending e.request.id newly_issued) m.book x h.0 in
        let jx : x.request ≡ r.0.request = ap (λ (y : Pending). y.request) r.2 ∙ at_keeps e.request.id newly_issued (λ y. refl) r.0 in
        let lt' : q.0.request.id.0 < r.0.request.id.0 = subst (λ (j : Accepted). q.0.request.id.0 < j.id.0) jx (subst (λ (j : Accepted). j.id.0 < x.request.id.0) q.2 lt) in
        let con' : conflict_on_port_by_flush_or_overlap (newly_unanswered q.0.request) (newly_unanswered r.0.request) ≡ true = subst (λ (j : Accepted). conflict_on_port_by_flush_or_overlap (newly_unanswered q.0.request) (newly_unanswered j) ≡ true) jx (subst (λ (j : Accepted). conflict_on_port_by_flush_or_overlap (newly_unanswered j) (newly_unanswered x.request) ≡ true) q.2 con) in
        ⊎_elim
        (λ p. let same : r.0 ≡ e = s.one r.0 e r.1 here p.0 in
        earlier q.0 q.1 (subst (λ (y : Pending). q.0.request.id.0 < y.request.id.0) same lt') (subst (λ (y : Pending). conflict_on_port_by_flush_or_overlap (newly_unanswered q.0.request) (newly_unanswered y.request) ≡ true) same con'))
        (λ p. s.order r.0 q.0 (inl (r.1, ap (λ (y : Pending). y.issued) (sym (r.2 ∙ p.1)) ∙ h.1)) q.1 lt' con')
        (at_cases e.request.id newly_issued r.0)

-- a step that issues nothing and changes requests
keeps_changed : (f g : Pending → Pending) (m n : Machine) → Carries f g m n → ((e : Pending) → (f e).issued ≡ true → e.issued ≡ true) → Sound m → Sound n
keeps_changed f g m n c quiet s = carried f g m n c (order_carried f g m n c quiet s) s

keeps_at : (f : Pending → Pending) (m n : Machine) (id : RequestId) → KeepsRequest f → ((e : Pending) → (f e).issued ≡ true → e.issued ≡ true)
    → n.book ≡ map (update_pending id f) m.book → n.kept ≡ map (update_pending id f) m.kept → n.next_id ≡ m.next_id → ((x : Frame) → n.lent x ≡ m.lent x) → Sound m → Sound n
keeps_at f m n id k quiet b kp nx ln s = keeps_changed (update_pending id f) (update_pending id f) m n
    (record {
      f_keeps = at_keeps id f k;
      g_keeps = at_keeps id f k;
      book = λ x h. map_in (update_pending id f) m.book x (subst (λ (es : List Pending). Contains es x) b h);
      kept = λ x h. map_in (update_pending id f) m.kept x (subst (λ (es : List Pending). Contains es x) kp h);
      next = nx;
      lent = ln;
    }) (at_quiet id f quiet) s

-- a step that changes bytes alone
keeps_bytes : (m n : Machine) → n.book ≡ m.book → n.kept ≡ m.kept → n.next_id ≡ m.next_id → ((x : Frame) → n.lent x ≡ m.lent x) → Sound m → Sound n
keeps_bytes m n b k nx ln s = keeps_changed (λ e. e) (λ e. e) m n
    (record {
      f_keeps = λ e. refl;
      g_keeps = λ e. refl;
      book = λ x h. (x, subst (λ (es : List Pending). Contains es x) b h, refl);
      kept = λ x h. (x, subst (λ (es : List Pending). Contains es x) k h, refl);
      next = nx;
      lent = ln;
    }) (λ e h. h) s

-- an answered request leaves; an issued one may stay as a kept one

stays_issued : (e : Pending) (outcome : Outcome) → is_kept_at_answer e outcome ≡ true → e.issued ≡ true
stays_issued e Ok h = absurd (false≢true h)
stays_issued e (DeviceError status error) h = absurd (false≢true h)
stays_issued e Aborted h = absurd (false≢true h)
stays_issued e Unplugged h = absurd (false≢true h)
stays_issued e PortDead h = h
stays_issued e Revoked h = absurd (false≢true h)

-- what an answer leaves, given whether the request stays as a kept one
abbrev answered : Machine → Pending → Bool → Machine
answered m e b = record m { book = without_pending e.request.id m.book; kept = cond b (e ∷ m.kept) m.kept; lent = cond b m.lent (unlend e.request.id m.lent) }

-- who lives after an answer lived before it, and is not the answered one unless that is kept
answered_lives : (m : Machine) (e : Pending) (b : Bool) → Contains m.book e → (x : Pending) → IsInBookOrKept (answered m e b) x → IsInBookOrKept m x
answered_lives m e b h x (inl i) = inl (without_in e.request.id m.book x i).0
answered_lives m e true h x (inr i) = ⊎_elim (λ p. inl (subst (λ (y : Pending). Contains m.book y) (sym p) h)) (λ j. inr j) (contains_cases e m.kept x i)
answered_lives m e false h x (inr i) = inr i

answered_runs : (m : Machine) (e : Pending) (b : Bool) → Contains m.book e → (b ≡ true → e.issued ≡ true) → (x : Pending) → IsIssuedOrKept (answered m e b) x → IsIssuedOrKept m x
answered_runs m e b h w x (inl i) = inl ((without_in e.request.id m.book x i.0).0, i.1)
answered_runs m e true h w x (inr i) = ⊎_elim (λ p. inl (subst (λ (y : Pending). Contains m.book y × (y.issued ≡ true)) (sym p) (h, w refl))) (λ j. inr j) (contains_cases e m.kept x i)
answered_runs m e false h w x (inr i) = inr i

take_back_other : (id : RequestId) (lent : Frame → Option RequestId) (x : Frame) (other : RequestId) → lent x ≡ Some other → (other.0 ≡ id.0 → ⊥) → unlend id lent x ≡ Some other
take_back_other id lent x other e ne = cond-false (is_lent_to id (lent x)) None (lent x) (ap (is_lent_to id) e ∙ ne_eqb other.0 id.0 ne) ∙ e

keeps_answer : (m : Machine) (e : Pending) (b : Bool) → Sound m → Contains m.book e → (b ≡ true → e.issued ≡ true) → Sound (answered m e b)
keeps_answer m e b s h w = record {
  below = λ x l. s.below x (answered_lives m e b h x l);
  one = λ x y hx hy eq. s.one x y (without_in e.request.id m.book x hx).0 (without_in e.request.id m.book y hy).0 eq;
  kept_one = kept_one b;
  apart = apart b;
  lent = lent b;
  distinct = λ x l. s.distinct x (answered_lives m e b h x l);
  room = λ x l. s.room x (answered_lives m e b h x l);
  order = λ x a r l. s.order x a (answered_runs m e b h w x r) (answered_lives m e b h a l);
}
  where
    kept_one : (b : Bool) (x y : Pending) → Contains (answered m e b).kept x → Contains (answered m e b).kept y → x.request.id.0 ≡ y.request.id.0 → x ≡ y
    kept_one true x y i j eq = both (contains_cases e m.kept x i) (contains_cases e m.kept y j)
      where
        both : (x ≡ e) ⊎ Contains m.kept x → (y ≡ e) ⊎ Contains m.kept y → x ≡ y
        both (inl p) (inl q) = p ∙ sym q
        both (inl p) (inr q) = absurd (s.apart e y h q (ap (λ (z : Pending). z.request.id.0) (sym p) ∙ eq))
        both (inr p) (inl q) = absurd (s.apart e x h p (ap (λ (z : Pending). z.request.id.0) (sym q) ∙ sym eq))
        both (inr p) (inr q) = s.kept_one x y p q eq
    kept_one false x y p q eq = s.kept_one x y p q eq

    apart : (b : Bool) (x y : Pending) → Contains (without_pending e.request.id m.book) x → Contains (answered m e b).kept y → x.request.id.0 ≡ y.request.id.0 → ⊥
    apart true x y i j eq = ⊎_elim
        (λ q. (without_in e.request.id m.book x i).1 (eq ∙ ap (λ (z : Pending). z.request.id.0) q))
        (λ q. s.apart x y (without_in e.request.id m.book x i).0 q eq)
        (contains_cases e m.kept y j)
    apart false x y i q eq = s.apart x y (without_in e.request.id m.book x i).0 q eq

    lent : (b : Bool) (x : Pending) → IsInBookOrKept (answered m e b) x → IsLentAll (answered m e b).lent x.request
    lent true x l k lt = s.lent x (answered_lives m e true h x l) k lt
    lent false x (inl i) k lt =
        let r = without_in e.request.id m.book x i in
        take_back_other e.request.id m.lent (nth_frame x.request.asked.frames.items k) x.request.id (s.lent x (inl r.0) k lt) r.1
    lent false x (inr i) k lt =
        take_back_other e.request.id m.lent (nth_frame x.request.asked.frames.items k) x.request.id (s.lent x (inr i) k lt) (λ q. s.apart e x h i (sym q))

-- nobody in the list has this id
none_has : (id : RequestId) (es : List Pending) (o : Option RequestId) → o ≡ Some id → ((x : Pending) → Contains es x → x.request.id.0 ≡ id.0 → ⊥) → list_any (λ e. is_lent_to e.request.id o) es ≡ false
none_has id [] o p ne = refl
none_has id (y ∷ ys) o p ne =
    ap (λ (b : Bool). b || list_any (λ e. is_lent_to e.request.id o) ys) (ap (is_lent_to y.request.id) p ∙ ne_eqb id.0 y.request.id.0 (λ q. ne y (contains_here y ys y refl) (sym q)))
    ∙ none_has id ys o p (λ x i. ne x (contains_there y ys x i))

keeps_release : (m : Machine) → Sound m → Sound (after_step m Release)
keeps_release m s = record {
  below = λ x l. s.below x (lives x l);
  one = s.one;
  kept_one = λ x y i j eq. absurd (contains_none x i);
  apart = λ x y i j eq. contains_none y j;
  lent = λ x l k lt. lent x l k lt;
  distinct = λ x l. s.distinct x (lives x l);
  room = λ x l. s.room x (lives x l);
  order = λ x a r l. s.order x a (runs x r) (lives a l);
}
  where
    lives : (x : Pending) → IsInBookOrKept (after_step m Release) x → IsInBookOrKept m x
    lives x (inl i) = inl i
    lives x (inr i) = absurd (contains_none x i)

    runs : (x : Pending) → IsIssuedOrKept (after_step m Release) x → IsIssuedOrKept m x
    runs x (inl i) = inl i
    runs x (inr i) = absurd (contains_none x i)

    lent : (x : Pending) → IsInBookOrKept (after_step m Release) x → IsLentAll (unlend_all m.kept m.lent) x.request
    lent x (inl i) k lt =
        let f = nth_frame x.request.asked.frames.items k in
        let e : m.lent f ≡ Some x.request.id = s.lent x (inl i) k lt in
        cond-false (list_any (λ y. is_lent_to y.request.id (m.lent f)) m.kept) None (m.lent f) (none_has x.request.id m.kept (m.lent f) e (λ y j q. s.apart x y i j (sym q))) ∙ e
    lent x (inr i) k lt = absurd (contains_none x i)

-- the place of a frame that the list has
pub place_of : (f : Frame) (frames : List Frame) → list_any (λ g. g.0 == f.0) frames ≡ true → (j : ℕ) × (j < length frames) × (nth_frame frames j ≡ f)
place_of f [] h = absurd (false≢true h)
place_of f (x ∷ xs) h = go (x.0 == f.0) refl (place_of f xs)
  where
    go : (b : Bool) → (x.0 == f.0) ≡ b → (list_any (λ g. g.0 == f.0) xs ≡ true → (j : ℕ) × (j < length xs) × (nth_frame xs j ≡ f)) → (j : ℕ) × (j < length (x ∷ xs)) × (nth_frame (x ∷ xs) j ≡ f)
    go true p rest = (0, omega arith, same_frame x f (eqb-true x.0 f.0 p))
    go false p rest = let r = rest (subst (λ (b : Bool). (b || list_any (λ g. g.0 == f.0) xs) ≡ true) p h) in (suc r.0, omega (arith, r.1), r.2)

has_place : (frames : List Frame) (j : ℕ) → j < length frames → list_any (λ g. g.0 == (nth_frame frames j).0) frames ≡ true
has_place [] j lt = absurd (omega arith)
has_place (f ∷ fs) zero lt = or_left _ _ (eq-eqb f.0 f.0 refl)
has_place (f ∷ fs) (suc j) lt = or_right _ _ (has_place fs j (omega arith))

-- a frame at a place below the length is there
pub get_frame : (frames : List Frame) (i : ℕ) → i < length frames → slice_get frames i ≡ Some (nth_frame frames i)
get_frame frames i lt = slice_get-get_or frames i (record { 0 = 0 }) lt

some_is_some : (o : Option RequestId) (x : RequestId) → o ≡ Some x → IsSome o
some_is_some o x e = ap is_some e

enough : (op : Op) (count n : ℕ) → n ≡ frame_count_for op count → is_reader op ≡ true → count ≤ 8 * n
enough Read count n e r = omega arith
enough Write count n e r = absurd (false≢true r)
enough Trim count n e r = absurd (false≢true r)
enough Flush count n e r = absurd (false≢true r)

keeps_accept : (m : Machine) (request : Accepted) → Sound m → MayAccept m request → Sound (after_step m (Accept request))
keeps_accept m request s new = record {
  below = λ x l. ⊎_elim (λ i. below x i) (λ p. subst (λ (y : Pending). y.request.id.0 < suc m.next_id) (sym p) (omega (arith, new.id_is_next))) (who x l);
  one = λ a b ha hb eq. one a b (append_in m.book (newly_accepted request) a ha) (append_in m.book (newly_accepted request) b hb) eq;
  kept_one = s.kept_one;
  apart = λ a b ha hb eq. apart a b (append_in m.book (newly_accepted request) a ha) hb eq;
  lent = λ x l. lent x (who x l);
  distinct = λ x l. ⊎_elim (λ i. s.distinct x i) (λ p. subst (λ (y : Pending). IsDistinct y.request.asked.frames.items) (sym p) apart_frames) (who x l);
  room = λ x l. ⊎_elim (λ i. s.room x i) (λ p. subst (λ (y : Pending). is_reader y.request.asked.op ≡ true → y.request.asked.count ≤ 8 * length y.request.asked.frames.items) (sym p) room) (who x l);
  order = λ e a r l lt con. order e a r (who a l) lt con;
}
  where
    who : (x : Pending) → IsInBookOrKept (after_step m (Accept request)) x → IsInBookOrKept m x ⊎ (x ≡ newly_accepted request)
    who x (inl i) = ⊎_elim (λ j. inl (inl j)) (λ p. inr p) (append_in m.book (newly_accepted request) x i)
    who x (inr i) = inl (inr i)

    below : (x : Pending) → IsInBookOrKept m x → x.request.id.0 < suc m.next_id
    below x i = let b = s.below x i in omega (arith, b)

    is_new : (x : Pending) → x ≡ newly_accepted request → x.request.id.0 ≡ m.next_id
    is_new x p = ap (λ (y : Pending). y.request.id.0) p ∙ new.id_is_next

    clash : (a b : Pending) → IsInBookOrKept m a → b ≡ newly_accepted request → a.request.id.0 ≡ b.request.id.0 → ⊥
    clash a b l p eq = let below = s.below a l in let id = is_new b p in omega (arith, below, id, eq)

    one : (a b : Pending) → Contains m.book a ⊎ (a ≡ newly_accepted request) → Contains m.book b ⊎ (b ≡ newly_accepted request) → a.request.id.0 ≡ b.request.id.0 → a ≡ b
    one a b (inl i) (inl j) eq = s.one a b i j eq
    one a b (inl i) (inr q) eq = absurd (clash a b (inl i) q eq)
    one a b (inr p) (inl j) eq = absurd (clash b a (inl j) p (sym eq))
    one a b (inr p) (inr q) eq = p ∙ sym q

    apart : (a b : Pending) → Contains m.book a ⊎ (a ≡ newly_accepted request) → Contains m.kept b → a.request.id.0 ≡ b.request.id.0 → ⊥
    apart a b (inl i) j eq = s.apart a b i j eq
    apart a b (inr p) j eq = clash b a (inr j) p (sym eq)

    unlent : (x : Frame) → IsSome (m.lent x) → list_any (λ g. g.0 == x.0) request.asked.frames.items ≡ false
    unlent x h = false_from_ne_true _ (λ t. let r = place_of x request.asked.frames.items t in
        new.breaks_no_rule (Frames (FrameLent r.0)) (nth_frame request.asked.frames.items r.0, get_frame request.asked.frames.items r.0 r.1, subst (λ (y : Frame). IsSome (m.lent y)) (sym r.2) h))

    lent : (x : Pending) → IsInBookOrKept m x ⊎ (x ≡ newly_accepted request) → IsLentAll (lend request m.lent) x.request
    lent x (inl l) k lt =
        let f = nth_frame x.request.asked.frames.items k in
        let e : m.lent f ≡ Some x.request.id = s.lent x l k lt in
        cond-false (list_any (λ g. g.0 == f.0) request.asked.frames.items) (Some request.id) (m.lent f) (unlent f (some_is_some (m.lent f) x.request.id e)) ∙ e
    lent x (inr p) k lt = subst (λ (y : Pending). IsLentAll (lend request m.lent) y.request) (sym p) own k lt
      where
        own : IsLentAll (lend request m.lent) request
        own j below = cond-true (list_any (λ g. g.0 == (nth_frame request.asked.frames.items j).0) request.asked.frames.items) (Some request.id) (m.lent (nth_frame request.asked.frames.items j)) (has_place request.asked.frames.items j below)

    apart_frames : IsDistinct request.asked.frames.items
    apart_frames i j lt below eq = new.breaks_no_rule (Frames (FrameTwice i))
        (nth_frame request.asked.frames.items i, j, lt, get_frame request.asked.frames.items j (omega (arith, lt, below)) ∙ ap Some eq, get_frame request.asked.frames.items i below)

    room : is_reader request.asked.op ≡ true → request.asked.count ≤ 8 * length request.asked.frames.items
    room r = ⊎_elim (λ e. enough request.asked.op request.asked.count (length request.asked.frames.items) e r) (λ ne. absurd (new.breaks_no_rule FrameCount ne)) (cases_eq (length request.asked.frames.items) (frame_count_for request.asked.op request.asked.count))

    order : (e a : Pending) → IsIssuedOrKept (after_step m (Accept request)) e → IsInBookOrKept m a ⊎ (a ≡ newly_accepted request) → a.request.id.0 < e.request.id.0 → conflict_on_port_by_flush_or_overlap (newly_unanswered a.request) (newly_unanswered e.request) ≡ true → ⊥
    order e a (inr i) (inl l) lt con = s.order e a (inr i) l lt con
    order e a (inr i) (inr p) lt con = let b = s.below e (inr i) in let n = is_new a p in omega (arith, b, n, lt)
    order e a (inl h) l lt con = inner (append_in m.book (newly_accepted request) e h.0) l
      where
        inner : Contains m.book e ⊎ (e ≡ newly_accepted request) → IsInBookOrKept m a ⊎ (a ≡ newly_accepted request) → ⊥
        inner (inl i) (inl l) = s.order e a (inl (i, h.1)) l lt con
        inner (inl i) (inr p) = let b = s.below e (inl i) in let n = is_new a p in omega (arith, b, n, lt)
        inner (inr p) l = false≢true (ap (λ (y : Pending). y.issued) (sym p) ∙ h.1)

-- each step that may come keeps the machine sound
pub keeps : (m : Machine) (step : Step) → IsEnabled m step → Sound m → Sound (after_step m step)
keeps m (Accept request) may s = keeps_accept m request s may
keeps m (Issue mode e) may s = keeps_issue m mode e s may.0 may.1 may.2
keeps m (Touch e i block) may s = keeps_at (touch i) m (after_step m (Touch e i block)) e.request.id (λ x. refl) (λ x h. h) refl refl refl (λ x. refl) s
keeps m (End e) may s = keeps_at mark_ended m (after_step m (End e)) e.request.id (λ x. refl) (λ x h. h) refl refl refl (λ x. refl) s
keeps m (Age ready) may s = keeps_changed (aged_pending ready) (λ x. x) m (after_step m (Age ready))
    (record {
      f_keeps = older_keeps ready;
      g_keeps = λ x. refl;
      book = λ x h. map_in (aged_pending ready) m.book x h;
      kept = same_all m.kept;
      next = refl;
      lent = λ x. refl;
    }) (λ x h. sym (older_issued ready x) ∙ h) s
keeps m (WaitAgain e) may s = keeps_changed (update_pending e.request.id requeued) (λ x. x) m (after_step m (WaitAgain e))
    (record {
      f_keeps = at_keeps e.request.id requeued (λ x. refl);
      g_keeps = λ x. refl;
      book = λ x h. map_in (update_pending e.request.id requeued) m.book x h;
      kept = same_all m.kept;
      next = refl;
      lent = λ x. refl;
    }) (at_quiet e.request.id requeued (λ x h. absurd (false≢true h))) s
keeps m (Answer e outcome) may s = keeps_answer m e (is_kept_at_answer e outcome) s may.0 (stays_issued e outcome)
keeps m (Revoke client number) may s = keeps_bytes m (after_step m (Revoke client number)) refl refl refl (λ x. refl) s
keeps m Release may s = keeps_release m s
keeps m (Unplug port) may s = keeps_bytes m (after_step m (Unplug port)) refl refl refl (λ x. refl) s
keeps m (PlugDisk port id size disk) may s = keeps_bytes m (after_step m (PlugDisk port id size disk)) refl refl refl (λ x. refl) s
keeps m (Store client frame offset bytes) may s = keeps_bytes m (after_step m (Store client frame offset bytes)) refl refl refl (λ x. refl) s
keeps m (Load client frame offset bytes) may s = s
