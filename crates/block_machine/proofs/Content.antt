-- What stands on the disks is what the last writer in order of acceptance put there.
use Rattle.std.proofs.Common.{◌≡◌, ℕ, ◌+◌, ◌-◌, ◌<◌, ◌≤◌, Bool, true, false, ◌&&◌, ◌==◌, List, ◌∷◌, suc, inl, inr, ⊎_elim, refl, sym, ap, ◌∙◌, subst, arith, eqb-true, eq-eqb, ne_eqb, le_refl}
use Rattle.std.proofs.lemmas.Bool.{cases_eq, cases_lt, or_left, and_parts, and_from, cond-true, cond-false, both_ways}
use Rattle.ata_types.specs.declared.Port.{Port}
use Rattle.block_machine.specs.State.{Block, DiskBytes, Accepted, Pending, Machine, newly_unanswered, sector_of, block_written}
use Rattle.block_machine.specs.DueRequests.{conflict_on_port_by_flush_or_overlap, changes_sectors}
use Rattle.block_machine.specs.Steps.{Step, Accept, Issue, Touch, End, Age, WaitAgain, Answer, Revoke, Release, Unplug, PlugDisk, Store, Load, IsEnabled, after_step, IsIssuedOrKept, put_sector, disks_after_touch}
use Rattle.block_machine.specs.Expected.{plug_count, bytes_when_plugged, IsTouch, HasTouched, ChangedSector, IsLastWrittenOrPluggedIn}
use Rattle.block_machine.proofs.Sound.{Sound}
use Rattle.block_machine.proofs.Keeps.{same_port}
use Rattle.block_machine.proofs.Trace.{Seen, runs_lives, conflict_at, touched_number, last_from}

-- each touch in the history is one that the machine has seen
abbrev pub AllSeen : Machine → List Step → Type 0
AllSeen m h = (w : Accepted) (k n : ℕ) → HasTouched w k n h → Seen m w k

abbrev pub Holds : Machine → List Step → Machine → Type 0
Holds start h m = (port : Port) (k : ℕ) → IsLastWrittenOrPluggedIn start port k (plug_count port h) m.next_id h (m.disk_bytes port k)

-- a step that touches nothing and changes no disk
content_quiet : (start : Machine) (h : List Step) (m : Machine) (step : Step) (port : Port) (k limit : ℕ) → AllSeen m h
    → ((w : Accepted) → IsTouch step w k → ⊥) → plug_count port (step ∷ h) ≡ plug_count port h → m.next_id ≤ limit
    → IsLastWrittenOrPluggedIn start port k (plug_count port h) m.next_id h (m.disk_bytes port k)
    → IsLastWrittenOrPluggedIn start port k (plug_count port (step ∷ h)) limit (step ∷ h) (m.disk_bytes port k)
content_quiet start h m step port k limit seen untouched number le last =
    subst (λ (n : ℕ). IsLastWrittenOrPluggedIn start port k n limit (step ∷ h) (m.disk_bytes port k)) (sym number)
    (last_from start port k (plug_count port h) m.next_id limit step h (m.disk_bytes port k) (le_refl _)
    (λ w _ _ _ t. untouched w t)
    (λ w o. let b = o.earlier in omega (arith, le, b))
    (λ w o. (seen w k (plug_count port h) o.touched).below)
    last)

content_replace : (start : Machine) (h : List Step) (m : Machine) (at : Port) (id size : ℕ) (disk : DiskBytes) (port : Port) (k : ℕ) → AllSeen m h
    → IsLastWrittenOrPluggedIn start port k (plug_count port h) m.next_id h (m.disk_bytes port k)
    → IsLastWrittenOrPluggedIn start port k (plug_count port (PlugDisk at id size disk ∷ h)) m.next_id (PlugDisk at id size disk ∷ h) ((after_step m (PlugDisk at id size disk)).disk_bytes port k)
content_replace start h m at id size disk port k seen last = ⊎_elim same other (cases_eq at.0 port.0)
  where
    same : at.0 ≡ port.0 → IsLastWrittenOrPluggedIn start port k (plug_count port (PlugDisk at id size disk ∷ h)) m.next_id (PlugDisk at id size disk ∷ h) ((after_step m (PlugDisk at id size disk)).disk_bytes port k)
    same e =
        let t : (at.0 == port.0) ≡ true = eq-eqb at.0 port.0 e in
        let t' : (port.0 == at.0) ≡ true = eq-eqb port.0 at.0 (sym e) in
        let number : plug_count port (PlugDisk at id size disk ∷ h) ≡ suc (plug_count port h) = cond-true (at.0 == port.0) (suc (plug_count port h)) (plug_count port h) t in
        let now : (after_step m (PlugDisk at id size disk)).disk_bytes port ≡ disk = cond-true (port.0 == at.0) disk (m.disk_bytes port) t' in
        let put : bytes_when_plugged start port (plug_count port (PlugDisk at id size disk ∷ h)) (PlugDisk at id size disk ∷ h) ≡ disk =
        cond-true ((at.0 == port.0) && suc (plug_count port h) == plug_count port (PlugDisk at id size disk ∷ h)) disk (bytes_when_plugged start port (plug_count port (PlugDisk at id size disk ∷ h)) h)
        (and_from _ _ t (eq-eqb (suc (plug_count port h)) (plug_count port (PlugDisk at id size disk ∷ h)) (sym number))) in
        inr (
          λ w o. ⊎_elim (λ (x : ⊥ × (plug_count w.port h ≡ plug_count port (PlugDisk at id size disk ∷ h))). x.0)
              (λ (x : HasTouched w k (plug_count port (PlugDisk at id size disk ∷ h)) h).
              let b = touched_number w k (plug_count port (PlugDisk at id size disk ∷ h)) h x in
              let p : plug_count w.port h ≡ plug_count port h = ap (λ (q : Port). plug_count q h) o.port_is in
              let f : ⊥ = omega (arith, b, p, number) in f)
              o.touched,
          ap (λ (d : DiskBytes). d k) (now ∙ sym put),
        )

    other : (at.0 ≡ port.0 → ⊥) → IsLastWrittenOrPluggedIn start port k (plug_count port (PlugDisk at id size disk ∷ h)) m.next_id (PlugDisk at id size disk ∷ h) ((after_step m (PlugDisk at id size disk)).disk_bytes port k)
    other ne =
        let f : (at.0 == port.0) ≡ false = ne_eqb at.0 port.0 ne in
        let f' : (port.0 == at.0) ≡ false = ne_eqb port.0 at.0 (λ e. ne (sym e)) in
        let number : plug_count port (PlugDisk at id size disk ∷ h) ≡ plug_count port h = cond-false (at.0 == port.0) (suc (plug_count port h)) (plug_count port h) f in
        let now : (after_step m (PlugDisk at id size disk)).disk_bytes port ≡ m.disk_bytes port = cond-false (port.0 == at.0) disk (m.disk_bytes port) f' in
        subst (λ (d : DiskBytes). IsLastWrittenOrPluggedIn start port k (plug_count port (PlugDisk at id size disk ∷ h)) m.next_id (PlugDisk at id size disk ∷ h) (d k)) (sym now)
        (content_quiet start h m (PlugDisk at id size disk) port k m.next_id seen (λ w t. t) number (le_refl _) last)

content_touch : (start : Machine) (h : List Step) (m : Machine) (e : Pending) (i : ℕ) (block : Block) (port : Port) (k : ℕ) → Sound m → AllSeen m h → IsIssuedOrKept m e → i < e.request.asked.count
    → IsLastWrittenOrPluggedIn start port k (plug_count port h) m.next_id h (m.disk_bytes port k)
    → IsLastWrittenOrPluggedIn start port k (plug_count port h) m.next_id (Touch e i block ∷ h) (disks_after_touch e.request i m.disk_bytes port k)
content_touch start h m e i block port k s seen r lt last = by_op (changes_sectors e.request.asked.op) refl
  where
    -- no writer's touch of this sector
    quiet : (left : Block) → left ≡ m.disk_bytes port k → ((w : Accepted) → changes_sectors w.asked.op ≡ true → w.port ≡ port → IsTouch (Touch e i block) w k → ⊥)
        → IsLastWrittenOrPluggedIn start port k (plug_count port h) m.next_id (Touch e i block ∷ h) left
    quiet left same none =
        subst (λ (b : Block). IsLastWrittenOrPluggedIn start port k (plug_count port h) m.next_id (Touch e i block ∷ h) b) (sym same)
        (last_from start port k (plug_count port h) m.next_id m.next_id (Touch e i block) h (m.disk_bytes port k) (le_refl _)
        (λ w a b _ t. none w a b t) (λ w o. o.earlier) (λ w o. o.earlier) last)

    latest : changes_sectors e.request.asked.op ≡ true → e.request.port ≡ port → e.request.asked.first.0 + i ≡ k
        → (w : Accepted) → ChangedSector port k (plug_count port h) m.next_id (Touch e i block ∷ h) w → w.id.0 ≤ e.request.id.0
    latest writes here at w o = ⊎_elim
        (λ (t : IsTouch (Touch e i block) w k × (plug_count w.port h ≡ plug_count port h)).
        subst (λ (j : Accepted). j.id.0 ≤ e.request.id.0) t.0.0 (le_refl _))
        (λ (t : HasTouched w k (plug_count port h) h). ⊎_elim
        (λ (less : e.request.id.0 < w.id.0).
        let q = seen w k (plug_count port h) t in
        let con : conflict_on_port_by_flush_or_overlap (newly_unanswered e.request) (newly_unanswered w) ≡ true = conflict_at e.request w k (here ∙ sym o.port_is) (or_left _ _ writes) (omega (arith, at)) (omega (arith, at, lt)) q.from q.to in
        absurd (q.order e (runs_lives m e r) less con))
        (λ (le : w.id.0 ≤ e.request.id.0). le)
        (cases_lt e.request.id.0 w.id.0))
        o.touched

    by_place : changes_sectors e.request.asked.op ≡ true → (b : Bool) → ((port.0 == e.request.port.0) && (k == e.request.asked.first.0 + i)) ≡ b
        → IsLastWrittenOrPluggedIn start port k (plug_count port h) m.next_id (Touch e i block ∷ h) (put_sector e.request.port (e.request.asked.first.0 + i) (block_written e.request.asked.op e.request.blocks_at_acceptance i) m.disk_bytes port k)
    by_place writes true t =
        let p = and_parts (port.0 == e.request.port.0) (k == e.request.asked.first.0 + i) t in
        let here : e.request.port ≡ port = sym (same_port port e.request.port (eqb-true port.0 e.request.port.0 p.0)) in
        let at : e.request.asked.first.0 + i ≡ k = sym (eqb-true k (e.request.asked.first.0 + i) p.1) in
        let nth : k - e.request.asked.first.0 ≡ i = omega (arith, at) in
        inl (
          e.request,
          record { op_changes_sectors = writes; port_is = here; earlier = s.below e (runs_lives m e r); touched = inl ((refl, at), ap (λ (q : Port). plug_count q h) here) },
          latest writes here at,
          cond-true ((port.0 == e.request.port.0) && (k == e.request.asked.first.0 + i)) (block_written e.request.asked.op e.request.blocks_at_acceptance i) (m.disk_bytes port k) t
              ∙ ap (λ (x : ℕ). block_written e.request.asked.op e.request.blocks_at_acceptance x) (sym nth),
        )
    by_place writes false t =
        quiet _ (cond-false ((port.0 == e.request.port.0) && (k == e.request.asked.first.0 + i)) (block_written e.request.asked.op e.request.blocks_at_acceptance i) (m.disk_bytes port k) t)
        (λ w _ here touch.
        let port_same : port ≡ e.request.port = sym here ∙ ap (λ (j : Accepted). j.port) (sym touch.0) in
        let k_same : k ≡ e.request.asked.first.0 + i = sym touch.1 ∙ ap (λ (j : Accepted). sector_of j i) (sym touch.0) in
        both_ways _ t (and_from _ _ (eq-eqb port.0 e.request.port.0 (ap (λ (q : Port). q.0) port_same)) (eq-eqb k (e.request.asked.first.0 + i) k_same)))

    by_op : (b : Bool) → changes_sectors e.request.asked.op ≡ b
        → IsLastWrittenOrPluggedIn start port k (plug_count port h) m.next_id (Touch e i block ∷ h) (disks_after_touch e.request i m.disk_bytes port k)
    by_op true w =
        subst (λ (d : Port → DiskBytes). IsLastWrittenOrPluggedIn start port k (plug_count port h) m.next_id (Touch e i block ∷ h) (d port k))
        (sym (cond-true (changes_sectors e.request.asked.op) (put_sector e.request.port (e.request.asked.first.0 + i) (block_written e.request.asked.op e.request.blocks_at_acceptance i) m.disk_bytes) m.disk_bytes w))
        (by_place w _ refl)
    by_op false w =
        quiet _ (ap (λ (d : Port → DiskBytes). d port k) (cond-false (changes_sectors e.request.asked.op) (put_sector e.request.port (e.request.asked.first.0 + i) (block_written e.request.asked.op e.request.blocks_at_acceptance i) m.disk_bytes) m.disk_bytes w))
        (λ x writes here touch. both_ways _ w (subst (λ (j : Accepted). changes_sectors j.asked.op ≡ true) (sym touch.0) writes))

-- the disks hold what was last put there, after each step
pub content_step : (start : Machine) (h : List Step) (m : Machine) (step : Step) → IsEnabled m step → Sound m → AllSeen m h → Holds start h m → Holds start (step ∷ h) (after_step m step)
content_step start h m (Accept request) may s seen c port k = content_quiet start h m (Accept request) port k (suc m.next_id) seen (λ w t. t) refl (omega arith) (c port k)
content_step start h m (Issue mode e) may s seen c port k = content_quiet start h m (Issue mode e) port k m.next_id seen (λ w t. t) refl (le_refl _) (c port k)
content_step start h m (Touch e i block) may s seen c port k = content_touch start h m e i block port k s seen may.0 may.1 (c port k)
content_step start h m (End e) may s seen c port k = content_quiet start h m (End e) port k m.next_id seen (λ w t. t) refl (le_refl _) (c port k)
content_step start h m (Age ready) may s seen c port k = content_quiet start h m (Age ready) port k m.next_id seen (λ w t. t) refl (le_refl _) (c port k)
content_step start h m (WaitAgain e) may s seen c port k = content_quiet start h m (WaitAgain e) port k m.next_id seen (λ w t. t) refl (le_refl _) (c port k)
content_step start h m (Answer e outcome) may s seen c port k = content_quiet start h m (Answer e outcome) port k m.next_id seen (λ w t. t) refl (le_refl _) (c port k)
content_step start h m (Revoke client number) may s seen c port k = content_quiet start h m (Revoke client number) port k m.next_id seen (λ w t. t) refl (le_refl _) (c port k)
content_step start h m Release may s seen c port k = content_quiet start h m Release port k m.next_id seen (λ w t. t) refl (le_refl _) (c port k)
content_step start h m (Unplug at) may s seen c port k = content_quiet start h m (Unplug at) port k m.next_id seen (λ w t. t) refl (le_refl _) (c port k)
content_step start h m (PlugDisk at id size disk) may s seen c port k = content_replace start h m at id size disk port k seen (c port k)
content_step start h m (Store client frame offset bytes) may s seen c port k = content_quiet start h m (Store client frame offset bytes) port k m.next_id seen (λ w t. t) refl (le_refl _) (c port k)
content_step start h m (Load client frame offset bytes) may s seen c port k = content_quiet start h m (Load client frame offset bytes) port k m.next_id seen (λ w t. t) refl (le_refl _) (c port k)
