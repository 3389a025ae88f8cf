-- What is left for a read that was answered stays what it is, however long the run goes on.
use Rattle.std.proofs.Common.{◌≡◌, ◌≢◌, ℕ, ◌<◌, true, false, List, ◌∷◌, refl, sym, ap, ◌∙◌, subst, arith, eqb-true, ◌-◌, [], inl, inr}
use Rattle.std.proofs.lemmas.Bool.{or_left, and_parts, cond-false, false_from_ne_true}
use Rattle.block_machine.specs.DueRequests.{changes_sectors}
use Rattle.block_machine.specs.State.{Block, Accepted, Pending, Machine, sector_of, block_written}
use Rattle.block_machine.specs.Steps.{Step, Touch, IsEnabled, IsInBookOrKept}
use Rattle.block_machine.specs.Events.{AllEnabled}
use Rattle.block_machine.specs.Expected.{after, IsInitial, IsTouch, touches_sector, HasTouched, plug_count, disk_number_read, IsLastWrittenOrPluggedIn, IsExpectedBlock}
use Rattle.block_machine.proofs.Trace.{Seen, runs_lives, conflict_at, read_number, last_from}
use Rattle.block_machine.proofs.Runs.{traced}

-- a request that isn't there touches nothing
no_touch : (m : Machine) (step : Step) → IsEnabled m step → (r : Accepted) (k : ℕ) → ((e : Pending) → IsInBookOrKept m e → e.request.id ≢ r.id) → touches_sector r.id k step ≡ false
no_touch m (Touch e i block) may r k gone = false_from_ne_true _ (λ t.
    gone e (runs_lives m e may.0) (ap (λ (n : ℕ). record { 0 = n }) (eqb-true e.request.id.0 r.id.0 (and_parts _ _ t).0)))
no_touch m _ may r k gone = refl

-- no earlier write or trim touches a sector that the read touched
no_earlier : (m : Machine) (step : Step) → IsEnabled m step → (r : Accepted) (k : ℕ) → Seen m r k → (w : Accepted) → changes_sectors w.asked.op ≡ true → w.port ≡ r.port → w.id.0 < r.id.0 → IsTouch step w k → ⊥
no_earlier m (Touch e i block) may r k seen w writes here less t =
    let less_e : e.request.id.0 < r.id.0 = subst (λ (a : Accepted). a.id.0 < r.id.0) (sym t.0) less in
    let here_e : e.request.port ≡ r.port = ap (λ (a : Accepted). a.port) t.0 ∙ here in
    let writes_e : changes_sectors e.request.asked.op ≡ true = subst (λ (a : Accepted). changes_sectors a.asked.op ≡ true) (sym t.0) writes in
    let at : sector_of e.request i ≡ k = ap (λ (a : Accepted). sector_of a i) t.0 ∙ t.1 in
    seen.order e (runs_lives m e may.0) less_e
    (conflict_at e.request r k here_e (or_left _ _ writes_e) (omega (arith, at)) (omega (arith, at, may.1)) seen.from seen.to)
no_earlier m _ may r k seen w writes here less t = absurd t

pub law_expected_stays_once_read_is_answered : (start : Machine) (h : List Step) (step : Step) (read : Accepted) (k n : ℕ) (block : Block) → IsInitial start → AllEnabled start (step ∷ h)
    → HasTouched read k n h → ((e : Pending) → IsInBookOrKept (after start h) e → e.request.id ≢ read.id) → IsExpectedBlock start h read k block → IsExpectedBlock start (step ∷ h) read k block
law_expected_stays_once_read_is_answered start h step read k n block s enabled touched gone left =
    let m = after start h in
    let seen = (traced start h s enabled.0).seen read k n touched in
    let same : disk_number_read read k (step ∷ h) ≡ disk_number_read read k h = cond-false (touches_sector read.id k step) (plug_count read.port h) (disk_number_read read k h) (no_touch m step enabled.1 read k gone) in
    subst (λ (x : ℕ). IsLastWrittenOrPluggedIn start read.port k x read.id.0 (step ∷ h) block) (sym same)
    (last_from start read.port k (disk_number_read read k h) read.id.0 read.id.0 step h block (read_number read k h)
    (no_earlier m step enabled.1 read k seen) (λ w o. o.earlier) (λ w o. o.earlier) left)

-- Left is one block: requests that touched and have one id are one.

meets : {m : Machine} {x : Accepted} {j : ℕ} {w : Accepted} (k : ℕ) (step : Step) → IsEnabled m step → IsTouch step w k → Seen m x j → w.id.0 ≡ x.id.0 → w ≡ x
meets {m} k (Touch e i block) may t s id = sym t.0 ∙ s.one e (runs_lives m e may.0) (ap (λ (y : Accepted). y.id.0) t.0 ∙ id)
meets k _ may t s id = absurd t

touched_one : (start : Machine) (h : List Step) → IsInitial start → AllEnabled start h → (w x : Accepted) (k n j o : ℕ) → HasTouched w k n h → HasTouched x j o h → w.id.0 ≡ x.id.0 → w ≡ x
touched_one start [] s enabled w x k n j o a b id = absurd a
touched_one start (step ∷ past) s enabled w x k n j o (inl a) (inl b) id = both step a.0 b.0
  where
    both : (y : Step) → IsTouch y w k → IsTouch y x j → w ≡ x
    both (Touch e i block) p q = sym p.0 ∙ q.0
    both _ p q = absurd p
touched_one start (step ∷ past) s enabled w x k n j o (inl a) (inr b) id = meets k step enabled.1 a.0 ((traced start past s enabled.0).seen x j o b) id
touched_one start (step ∷ past) s enabled w x k n j o (inr a) (inl b) id = sym (meets j step enabled.1 b.0 ((traced start past s enabled.0).seen w k n a) (sym id))
touched_one start (step ∷ past) s enabled w x k n j o (inr a) (inr b) id = touched_one start past s enabled.0 w x k n j o a b id

-- on a history that is enabled, Left is one block
pub law_expected_is_unique : (start : Machine) (h : List Step) (read : Accepted) (k : ℕ) (a b : Block) → IsInitial start → AllEnabled start h → IsExpectedBlock start h read k a → IsExpectedBlock start h read k b → a ≡ b
law_expected_is_unique start h read k a b s enabled (inl p) (inl q) =
    let le = p.2 q.0 q.1 in
    let ge = q.2 p.0 p.1 in
    let same : p.0 ≡ q.0 = touched_one start h s enabled p.0 q.0 k _ k _ p.1.touched q.1.touched (omega (arith, le, ge)) in
    p.3 ∙ ap (λ (w : Accepted). block_written w.asked.op w.blocks_at_acceptance (k - w.asked.first.0)) same ∙ sym q.3
law_expected_is_unique start h read k a b s enabled (inl p) (inr q) = absurd (q.0 p.0 p.1)
law_expected_is_unique start h read k a b s enabled (inr p) (inl q) = absurd (p.0 q.0 q.1)
law_expected_is_unique start h read k a b s enabled (inr p) (inr q) = p.1 ∙ sym q.1
