-- What the history says of the disks and of the reads under way.
use Rattle.std.proofs.Common.{◌≡◌, ◌⊎◌, ℕ, ◌+◌, ◌<◌, ◌≤◌, Bool, true, false, cond, ◌&&◌, ◌||◌, ◌==◌, List, [], ◌∷◌, map, suc, inl, inr, ⊎_elim, refl, sym, ap, ◌∙◌, subst, arith, eq-eqb, ne_eqb, lt-ltb, le_refl}
use Rattle.std.proofs.lemmas.Bool.{or_right, and_from, and_right, cond-false}
use Rattle.std.specs.List.{Contains}
use Rattle.ata_types.specs.declared.Port.{Port}
use Rattle.block_machine.specs.State.{Block, DiskBytes, Accepted, Pending, Machine, newly_unanswered, sector_of}
use Rattle.block_machine.specs.DueRequests.{conflict_on_port_by_flush_or_overlap, changes_sectors}
use Rattle.block_machine.specs.Steps.{Step, Accept, Issue, Touch, End, Age, WaitAgain, Answer, Revoke, Release, Unplug, PlugDisk, Store, Load, IsEnabled, MayAccept, after_step, update_pending, IsInBookOrKept, IsIssuedOrKept, newly_issued, touch, mark_ended, requeued, aged_pending, newly_accepted}
use Rattle.block_machine.specs.Expected.{IsAccept, plugs_disk, plugged_disk, plug_count, bytes_when_plugged, IsTouch, touches_sector, HasTouched, disk_number_read, ChangedSector, IsLastWrittenOrPluggedIn}
use Rattle.block_machine.proofs.Members.{contains_none, contains_cases, map_in, without_in, append_in}
use Rattle.block_machine.proofs.Sound.{Sound, KeepsRequest}
use Rattle.block_machine.proofs.Keeps.{at_keeps, older_keeps}

-- Who lives after a step lived before it, or is new.

moved : (f : Pending → Pending) (es : List Pending) → KeepsRequest f → (a : Pending) → Contains (map f es) a → (o : Pending) × Contains es o × (a.request ≡ o.request)
moved f es k a h = let r = map_in f es a h in (r.0, r.1, ap (λ (x : Pending). x.request) r.2 ∙ k r.0)

-- a request that lived before with the same request
abbrev pub Before : Machine → Pending → Type 0
Before m a = (o : Pending) × IsInBookOrKept m o × (a.request ≡ o.request)

in_book : (m : Machine) (a : Pending) → (o : Pending) × Contains m.book o × (a.request ≡ o.request) → Before m a
in_book m a r = (r.0, inl r.1, r.2)

in_kept : (m : Machine) (a : Pending) → (o : Pending) × Contains m.kept o × (a.request ≡ o.request) → Before m a
in_kept m a r = (r.0, inr r.1, r.2)

same_before : (m : Machine) (a : Pending) → IsInBookOrKept m a → Before m a
same_before m a l = (a, l, refl)

kept_then : (m : Machine) (e a : Pending) (b : Bool) → Contains m.book e → Contains (cond b (e ∷ m.kept) m.kept) a → IsInBookOrKept m a
kept_then m e a true h i = ⊎_elim (λ p. inl (subst (λ (y : Pending). Contains m.book y) (sym p) h)) (λ j. inr j) (contains_cases e m.kept a i)
kept_then m e a false h i = inr i

-- the request comes with this step
abbrev pub Comes : Machine → Step → Accepted → Type 0
Comes m step r = IsAccept step r × MayAccept m r

pub lives_before : (m : Machine) (step : Step) → IsEnabled m step → (a : Pending) → IsInBookOrKept (after_step m step) a → Before m a ⊎ Comes m step a.request
lives_before m (Accept request) may a (inl h) = ⊎_elim (λ i. inl (same_before m a (inl i))) (λ p. inr (ap (λ (y : Pending). y.request) (sym p), subst (λ (y : Pending). MayAccept m y.request) (sym p) may)) (append_in m.book (newly_accepted request) a h)
lives_before m (Accept request) may a (inr h) = inl (same_before m a (inr h))
lives_before m (Issue mode e) may a (inl h) = inl (in_book m a (moved (update_pending e.request.id newly_issued) m.book (at_keeps e.request.id newly_issued (λ x. refl)) a h))
lives_before m (Issue mode e) may a (inr h) = inl (same_before m a (inr h))
lives_before m (Touch e i block) may a (inl h) = inl (in_book m a (moved (update_pending e.request.id (touch i)) m.book (at_keeps e.request.id (touch i) (λ x. refl)) a h))
lives_before m (Touch e i block) may a (inr h) = inl (in_kept m a (moved (update_pending e.request.id (touch i)) m.kept (at_keeps e.request.id (touch i) (λ x. refl)) a h))
lives_before m (End e) may a (inl h) = inl (in_book m a (moved (update_pending e.request.id mark_ended) m.book (at_keeps e.request.id mark_ended (λ x. refl)) a h))
lives_before m (End e) may a (inr h) = inl (in_kept m a (moved (update_pending e.request.id mark_ended) m.kept (at_keeps e.request.id mark_ended (λ x. refl)) a h))
lives_before m (Age ready) may a (inl h) = inl (in_book m a (moved (aged_pending ready) m.book (older_keeps ready) a h))
lives_before m (Age ready) may a (inr h) = inl (same_before m a (inr h))
lives_before m (WaitAgain e) may a (inl h) = inl (in_book m a (moved (update_pending e.request.id requeued) m.book (at_keeps e.request.id requeued (λ x. refl)) a h))
lives_before m (WaitAgain e) may a (inr h) = inl (same_before m a (inr h))
lives_before m (Answer e outcome) may a (inl h) = inl (same_before m a (inl (without_in e.request.id m.book a h).0))
lives_before m (Answer e outcome) may a (inr h) = inl (same_before m a (kept_then m e a _ may.0 h))
lives_before m (Revoke client number) may a h = inl (same_before m a h)
lives_before m Release may a (inl h) = inl (same_before m a (inl h))
lives_before m Release may a (inr h) = absurd (contains_none a h)
lives_before m (Unplug port) may a h = inl (same_before m a h)
lives_before m (PlugDisk port id size disk) may a h = inl (same_before m a h)
lives_before m (Store client frame offset bytes) may a h = inl (same_before m a h)
lives_before m (Load client frame offset bytes) may a h = inl (same_before m a h)

pub next_grows : (m : Machine) (step : Step) → m.next_id ≤ (after_step m step).next_id
next_grows m (Accept request) = omega arith
next_grows m _ = le_refl _

-- one living request has each id
pub living_one : (m : Machine) → Sound m → (a b : Pending) → IsInBookOrKept m a → IsInBookOrKept m b → a.request.id.0 ≡ b.request.id.0 → a ≡ b
living_one m s a b (inl i) (inl j) eq = s.one a b i j eq
living_one m s a b (inl i) (inr j) eq = absurd (s.apart a b i j eq)
living_one m s a b (inr i) (inl j) eq = absurd (s.apart b a j i (sym eq))
living_one m s a b (inr i) (inr j) eq = s.kept_one a b i j eq

pub lives_one : (m : Machine) → Sound m → (a b : Pending) → IsInBookOrKept m a → IsInBookOrKept m b → a.request.id.0 ≡ b.request.id.0 → a.request ≡ b.request
lives_one m s a b i j eq = ap (λ (x : Pending). x.request) (living_one m s a b i j eq)

pub runs_lives : (m : Machine) (e : Pending) → IsIssuedOrKept m e → IsInBookOrKept m e
runs_lives m e (inl h) = inl h.0
runs_lives m e (inr h) = inr h

-- two requests of a port with a sector in common, one of which writes, conflict
pub conflict_at : (a b : Accepted) (k : ℕ) → a.port ≡ b.port → (changes_sectors a.asked.op || changes_sectors b.asked.op) ≡ true
    → a.asked.first.0 ≤ k → k < a.asked.first.0 + a.asked.count → b.asked.first.0 ≤ k → k < b.asked.first.0 + b.asked.count → conflict_on_port_by_flush_or_overlap (newly_unanswered a) (newly_unanswered b) ≡ true
conflict_at a b k port w al ah bl bh =
    and_from _ _ (eq-eqb a.port.0 b.port.0 (ap (λ (p : Port). p.0) port)) (or_right _ _ (and_from _ _ w
    (and_from _ _ (and_from _ _ (lt-ltb a.asked.first.0 (b.asked.first.0 + b.asked.count) (omega arith)) (lt-ltb b.asked.first.0 (a.asked.first.0 + a.asked.count) (omega arith)))
    (and_from _ _ (lt-ltb 0 a.asked.count (omega arith)) (lt-ltb 0 b.asked.count (omega arith))))))

-- What is known of a request that touched a sector.
pub record Seen (m : Machine) (w : Accepted) (k : ℕ) : Type 0 where
  pub below : w.id.0 < m.next_id
  pub from : w.asked.first.0 ≤ k
  pub to : k < w.asked.first.0 + w.asked.count
  pub one : (a : Pending) → IsInBookOrKept m a → a.request.id.0 ≡ w.id.0 → a.request ≡ w
  pub order : (a : Pending) → IsInBookOrKept m a → a.request.id.0 < w.id.0 → conflict_on_port_by_flush_or_overlap (newly_unanswered a.request) (newly_unanswered w) ≡ true → ⊥

pub seen_step : (m : Machine) (step : Step) → IsEnabled m step → (w : Accepted) (k : ℕ) → Seen m w k → Seen (after_step m step) w k
seen_step m step may w k s = record {
  below = let g = next_grows m step in let b = s.below in omega (arith, g, b);
  from = s.from;
  to = s.to;
  one = λ a l eq. ⊎_elim
      (λ r. r.2 ∙ s.one r.0 r.1 (ap (λ (j : Accepted). j.id.0) (sym r.2) ∙ eq))
      (λ (p : Comes m step a.request). let b = s.below in let q = p.1.id_is_next in absurd (omega (arith, b, q, eq)))
      (lives_before m step may a l);
  order = λ a l lt con. ⊎_elim
      (λ r. s.order r.0 r.1 (subst (λ (j : Accepted). j.id.0 < w.id.0) r.2 lt) (subst (λ (j : Accepted). conflict_on_port_by_flush_or_overlap (newly_unanswered j) (newly_unanswered w) ≡ true) r.2 con))
      (λ (p : Comes m step a.request). let b = s.below in let q = p.1.id_is_next in omega (arith, b, q, lt))
      (lives_before m step may a l);
}

-- a request that touches a sector now
pub seen_now : (m : Machine) → Sound m → (e : Pending) (i : ℕ) → IsIssuedOrKept m e → i < e.request.asked.count → Seen m e.request (sector_of e.request i)
seen_now m s e i r lt = record {
  below = s.below e (runs_lives m e r);
  from = omega arith;
  to = omega arith;
  one = λ a l eq. lives_one m s a e l (runs_lives m e r) eq;
  order = λ a l less con. s.order e a r l less con;
}

pub seen_touch : (m : Machine) (step : Step) → IsEnabled m step → Sound m → (w : Accepted) (k : ℕ) → IsTouch step w k → Seen m w k
seen_touch m (Touch e i block) may s w k t = subst (λ (x : ℕ). Seen m w x) t.1 (subst (λ (j : Accepted). Seen m j (sector_of j i)) t.0 (seen_now m s e i may.0 may.1))
seen_touch m _ may s w k t = absurd t

-- Numbers of disks.

pub number_grows : (port : Port) (step : Step) (past : List Step) → plug_count port past ≤ plug_count port (step ∷ past)
number_grows port step past = elim (plugs_disk port step) as (λ b. plug_count port past ≤ cond b (suc (plug_count port past)) (plug_count port past)) [ true ↦ omega arith | false ↦ le_refl _ ]

pub touched_number : (w : Accepted) (k n : ℕ) (h : List Step) → HasTouched w k n h → n ≤ plug_count w.port h
touched_number w k n [] t = absurd t
touched_number w k n (step ∷ past) (inl t) = let g = number_grows w.port step past in let e = t.1 in omega (arith, g, e)
touched_number w k n (step ∷ past) (inr t) = let g = number_grows w.port step past in let r = touched_number w k n past t in omega (arith, g, r)

pub read_number : (request : Accepted) (k : ℕ) (h : List Step) → disk_number_read request k h ≤ plug_count request.port h
read_number request k [] = le_refl _
read_number request k (step ∷ past) =
    let g = number_grows request.port step past in
    let r = read_number request k past in
    let low : disk_number_read request k past ≤ plug_count request.port (step ∷ past) = omega (arith, g, r) in
    elim (touches_sector request.id k step) as (λ b. cond b (plug_count request.port past) (disk_number_read request k past) ≤ plug_count request.port (step ∷ past)) [ true ↦ g | false ↦ low ]

plugged_more : (start : Machine) (port : Port) (n : ℕ) (step : Step) (past : List Step) → n ≤ plug_count port past → bytes_when_plugged start port n (step ∷ past) ≡ bytes_when_plugged start port n past
plugged_more start port n step past le =
    cond-false (plugs_disk port step && suc (plug_count port past) == n) (plugged_disk step) (bytes_when_plugged start port n past)
    (and_right _ _ (ne_eqb (suc (plug_count port past)) n (λ e. let f : ⊥ = omega (arith, le, e) in f)))

-- what was last stays last after a step that is no touch of its kind
pub last_from : (start : Machine) (port : Port) (k n limit limit' : ℕ) (step : Step) (past : List Step) (block : Block)
    → n ≤ plug_count port past
    → ((w : Accepted) → changes_sectors w.asked.op ≡ true → w.port ≡ port → w.id.0 < limit' → IsTouch step w k → ⊥)
    → ((w : Accepted) → ChangedSector port k n limit past w → w.id.0 < limit')
    → ((w : Accepted) → ChangedSector port k n limit' past w → w.id.0 < limit)
    → IsLastWrittenOrPluggedIn start port k n limit past block → IsLastWrittenOrPluggedIn start port k n limit' (step ∷ past) block
last_from start port k n limit limit' step past block le untouched up down last = go last
  where
    older : (w : Accepted) → ChangedSector port k n limit' (step ∷ past) w → HasTouched w k n past
    older w o = ⊎_elim (λ t. absurd (untouched w o.op_changes_sectors o.port_is o.earlier t.0)) (λ t. t) o.touched

    past_too : (w : Accepted) → ChangedSector port k n limit' (step ∷ past) w → ChangedSector port k n limit past w
    past_too w o = record { op_changes_sectors = o.op_changes_sectors; port_is = o.port_is; earlier = down w (record { op_changes_sectors = o.op_changes_sectors; port_is = o.port_is; earlier = o.earlier; touched = older w o }); touched = older w o }

    now_too : (w : Accepted) → ChangedSector port k n limit past w → ChangedSector port k n limit' (step ∷ past) w
    now_too w o = record { op_changes_sectors = o.op_changes_sectors; port_is = o.port_is; earlier = up w o; touched = inr o.touched }

    go : IsLastWrittenOrPluggedIn start port k n limit past block → IsLastWrittenOrPluggedIn start port k n limit' (step ∷ past) block
    go (inl r) = inl (r.0, now_too r.0 r.1, λ other o. r.2 other (past_too other o), r.3)
    go (inr r) = inr (λ w o. r.0 w (past_too w o), r.1 ∙ ap (λ (d : DiskBytes). d k) (sym (plugged_more start port n step past le)))
