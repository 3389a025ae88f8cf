-- What a flush makes sure of lasts.
use Rattle.std.proofs.Common.{◌≡◌, ◌⊎◌, ℕ, ◌+◌, ◌-◌, ◌<◌, ◌≤◌, Bool, true, false, cond, not, ◌&&◌, ◌==◌, List, [], ◌∷◌, map, suc, inl, inr, ⊎_elim, refl, sym, ap, ◌∙◌, subst, arith, eqb-true, eq-eqb, ne_eqb}
use Rattle.std.proofs.lemmas.Bool.{eqb-false, cases_eq, cases_lt, or_cases, or_left, and_parts, and_from, and_cases, cond-true, cond-false, cond_both, false≢true, not-false, both_ways, false_from_ne_true}
use Rattle.std.specs.List.{Contains}
use Rattle.ata_types.specs.declared.Port.{Port}
use Rattle.ata_types.specs.declared.request.RequestId.{RequestId}
use Rattle.ata_types.specs.declared.request.Op.TheVariants.{Flush}
use Rattle.ata_types.specs.declared.request.Outcome.TheVariants.{Ok, DeviceError}
use Rattle.block_machine.specs.State.{Block, DiskBytes, Accepted, Pending, Machine, sector_of, block_written}
use Rattle.block_machine.specs.DueRequests.{is_flush, changes_sectors}
use Rattle.block_machine.specs.Steps.{Step, Accept, Issue, Touch, End, Age, WaitAgain, Answer, Release, Revoke, Unplug, PlugDisk, Store, Load, IsEnabled, IsIssuedOrKept, after_step, update_pending, newly_issued, touch, mark_ended, requeued, aged_pending, newly_accepted, put_sector, SameBytes, HoldsOrHeldSinceFlush}
use Rattle.block_machine.specs.Expected.{after, IsInitial, IsAccept, IsTouch, HasTouched, plug_count}
use Rattle.durability.specs.Durable.{AnswersOk, unplugs_disk_of, plugs_other_disk, WriteAcceptedSinceLastUnplug, WriteOkSinceLastUnplug, FlushAcceptedAfterOkWriteSinceLastUnplug, FlushOkAfterOkWriteOnSameDisk, IsWrittenByOrAfterOnAnyDisk, ReplugFindsFlushedOrLater, EveryReplugFindsFlushedOrLater}
use Rattle.block_machine.proofs.Members.{map_in, at_cases, without_in, append_in}
use Rattle.block_machine.proofs.Sound.{Sound}
use Rattle.block_machine.proofs.Keeps.{older_keeps, older_touched}
use Rattle.block_machine.proofs.Trace.{Seen, seen_touch, lives_one, runs_lives, conflict_at}
use Rattle.block_machine.proofs.Runs.{traced}
use Rattle.block_machine.specs.Events.{AbstractState, CallRecord, IsRun, steps_of, AllEnabled}
use Rattle.block_machine.proofs.EventLemmas.{IsWhole, AllWhole, run_starts, run_steps_are_enabled, run_whole}
use Rattle.block_machine.specs.Histories.{joint_state_after}

-- From this step on the bytes of the port's disk last: a flush of it is ended, or another disk is put in.
abbrev pub starts_lasting : Machine → Port → Step → Bool
starts_lasting old port (End e) = e.request.port.0 == port.0 && is_flush e.request.asked.op
starts_lasting old port (PlugDisk p id size disk) = p.0 == port.0 && not (id == old.disk_ids port)
starts_lasting old port _ = false

-- Sector k of the port's disk held this block at some moment since a flush was last ended on that disk, or since the
-- disk was first in. What it held before the start, the start says.
abbrev pub HeldSince : Machine → Port → ℕ → Block → List Step → Type 0
HeldSince start port k block [] = HoldsOrHeldSinceFlush start port k block
HeldSince start port k block (step ∷ past) =
    SameBytes block ((after start (step ∷ past)).disk_bytes port k)
    ⊎ ((starts_lasting (after start past) port step ≡ false) × HeldSince start port k block past)

-- the same disk comes back with each sector as it was at some such moment
abbrev pub ComesBack : Machine → List Step → Step → Type 0
ComesBack start past (PlugDisk port id size disk) =
    id ≡ (after start past).disk_ids port → (k : ℕ) → k < size → HeldSince start port k (disk k) past
ComesBack start past _ = Unit {0}

-- The disks of the history have volatile caches, and keep what was flushed: each disk that comes back does so.
abbrev pub IsVolatile : Machine → List Step → Type 0
IsVolatile start [] = Unit {0}
IsVolatile start (step ∷ past) = IsVolatile start past × ComesBack start past step

-- the step puts a disk in at the port
abbrev IsReplace : Step → Port → ℕ → ℕ → DiskBytes → Type 0
IsReplace (PlugDisk p i n d) port id size disk = (p ≡ port) × (i ≡ id) × (n ≡ size) × (d ≡ disk)
IsReplace _ port id size disk = ⊥

-- what a step does to a sector: nothing, a writer's touch, or another disk
record IsWritten (m : Machine) (step : Step) (port : Port) (k : ℕ) : Type 0 where
  entry : Pending
  runs : IsIssuedOrKept m entry
  writes : changes_sectors entry.request.asked.op ≡ true
  here : entry.request.port ≡ port
  touched : IsTouch step entry.request k
  from : entry.request.asked.first.0 ≤ k
  to : k < entry.request.asked.first.0 + entry.request.asked.count
  is : (after_step m step).disk_bytes port k ≡ block_written entry.request.asked.op entry.request.blocks_at_acceptance (k - entry.request.asked.first.0)

record IsReplaced (m : Machine) (step : Step) (port : Port) : Type 0 where
  id : ℕ
  size : ℕ
  disk : DiskBytes
  absent : m.present port ≡ false
  step_is : IsReplace step port id size disk
  is : (after_step m step).disk_bytes port ≡ disk

record IsIdle (m : Machine) (step : Step) (port : Port) (k : ℕ) : Type 0 where
  same : (after_step m step).disk_bytes port k ≡ m.disk_bytes port k
  quiet : (w : Accepted) → changes_sectors w.asked.op ≡ true → w.port ≡ port → IsTouch step w k → ⊥

abbrev Effect : Machine → Step → Port → ℕ → Type 0
Effect m step port k = IsIdle m step port k ⊎ (IsWritten m step port k ⊎ IsReplaced m step port)

effect_touch : (m : Machine) (e : Pending) (i : ℕ) (block : Block) (port : Port) (k : ℕ) → IsIssuedOrKept m e → i < e.request.asked.count → Effect m (Touch e i block) port k
effect_touch m e i block port k r lt = by_op (changes_sectors e.request.asked.op) refl
  where
    by_place : changes_sectors e.request.asked.op ≡ true → (after_step m (Touch e i block)).disk_bytes port k ≡ put_sector e.request.port (e.request.asked.first.0 + i) (block_written e.request.asked.op e.request.blocks_at_acceptance i) m.disk_bytes port k
        → (b : Bool) → ((port.0 == e.request.port.0) && (k == e.request.asked.first.0 + i)) ≡ b → Effect m (Touch e i block) port k
    by_place w joint_state_after true t =
        let p = and_parts (port.0 == e.request.port.0) (k == e.request.asked.first.0 + i) t in
        let sector : e.request.asked.first.0 + i ≡ k = sym (eqb-true k (e.request.asked.first.0 + i) p.1) in
        let nth : k - e.request.asked.first.0 ≡ i = omega (arith, sector) in
        inr (inl (record {
          entry = e;
          runs = r;
          writes = w;
          here = sym (ap (λ (n : ℕ). record { 0 = n }) (eqb-true port.0 e.request.port.0 p.0));
          touched = (refl, sector);
          from = omega (arith, sector);
          to = omega (arith, sector, lt);
          is = joint_state_after ∙ cond-true ((port.0 == e.request.port.0) && (k == e.request.asked.first.0 + i)) (block_written e.request.asked.op e.request.blocks_at_acceptance i) (m.disk_bytes port k) t ∙ ap (λ (x : ℕ). block_written e.request.asked.op e.request.blocks_at_acceptance x) (sym nth);
        }))
    by_place w joint_state_after false t = inl (record {
      same = joint_state_after ∙ cond-false ((port.0 == e.request.port.0) && (k == e.request.asked.first.0 + i)) (block_written e.request.asked.op e.request.blocks_at_acceptance i) (m.disk_bytes port k) t;
      quiet = λ x _ here touch.
          let port_same : port ≡ e.request.port = sym here ∙ ap (λ (j : Accepted). j.port) (sym touch.0) in
          let k_same : k ≡ e.request.asked.first.0 + i = sym touch.1 ∙ ap (λ (j : Accepted). sector_of j i) (sym touch.0) in
          both_ways _ t (and_from _ _ (eq-eqb port.0 e.request.port.0 (ap (λ (q : Port). q.0) port_same)) (eq-eqb k (e.request.asked.first.0 + i) k_same));
    })

    by_op : (b : Bool) → changes_sectors e.request.asked.op ≡ b → Effect m (Touch e i block) port k
    by_op true w = by_place w (ap (λ (d : Port → DiskBytes). d port k) (cond-true (changes_sectors e.request.asked.op) (put_sector e.request.port (e.request.asked.first.0 + i) (block_written e.request.asked.op e.request.blocks_at_acceptance i) m.disk_bytes) m.disk_bytes w)) _ refl
    by_op false w = inl (record {
      same = ap (λ (d : Port → DiskBytes). d port k) (cond-false (changes_sectors e.request.asked.op) (put_sector e.request.port (e.request.asked.first.0 + i) (block_written e.request.asked.op e.request.blocks_at_acceptance i) m.disk_bytes) m.disk_bytes w);
      quiet = λ x writes _ touch. both_ways _ w (subst (λ (j : Accepted). changes_sectors j.asked.op ≡ true) (sym touch.0) writes);
    })

effect_replace : (m : Machine) (p : Port) (id size : ℕ) (disk : DiskBytes) (port : Port) (k : ℕ) → m.present p ≡ false → Effect m (PlugDisk p id size disk) port k
effect_replace m p id size disk port k gone = ⊎_elim
    (λ (e : port.0 ≡ p.0). inr (inr (record {
      id = id;
      size = size;
      disk = disk;
      absent = ap m.present (ap (λ (n : ℕ). record { 0 = n }) e) ∙ gone;
      step_is = (sym (ap (λ (n : ℕ). record { 0 = n }) e), refl, refl, refl);
      is = cond-true (port.0 == p.0) disk (m.disk_bytes port) (eq-eqb port.0 p.0 e);
    })))
    (λ (ne : port.0 ≡ p.0 → ⊥). inl (record { same = ap (λ (d : DiskBytes). d k) (cond-false (port.0 == p.0) disk (m.disk_bytes port) (ne_eqb port.0 p.0 ne)); quiet = λ w _ _ t. t }))
    (cases_eq port.0 p.0)

effect : (m : Machine) (step : Step) (port : Port) (k : ℕ) → IsEnabled m step → Effect m step port k
effect m (Touch e i block) port k may = effect_touch m e i block port k may.0 may.1
effect m (PlugDisk p id size disk) port k may = effect_replace m p id size disk port k may.0
effect m (Accept request) port k may = inl (record { same = refl; quiet = λ w _ _ t. t })
effect m (Issue mode e) port k may = inl (record { same = refl; quiet = λ w _ _ t. t })
effect m (End e) port k may = inl (record { same = refl; quiet = λ w _ _ t. t })
effect m (Age ready) port k may = inl (record { same = refl; quiet = λ w _ _ t. t })
effect m (WaitAgain e) port k may = inl (record { same = refl; quiet = λ w _ _ t. t })
effect m (Answer e outcome) port k may = inl (record { same = refl; quiet = λ w _ _ t. t })
effect m (Revoke client number) port k may = inl (record { same = refl; quiet = λ w _ _ t. t })
effect m Release port k may = inl (record { same = refl; quiet = λ w _ _ t. t })
effect m (Unplug p) port k may = inl (record { same = refl; quiet = λ w _ _ t. t })
effect m (Store client frame offset bytes) port k may = inl (record { same = refl; quiet = λ w _ _ t. t })
effect m (Load client frame offset bytes) port k may = inl (record { same = refl; quiet = λ w _ _ t. t })

-- while no disk is taken out, one stays in
stays_in : (m : Machine) (step : Step) (port : Port) → IsEnabled m step → unplugs_disk_of port step ≡ false → m.present port ≡ true → (after_step m step).present port ≡ true
stays_in m (Unplug p) port may out here = cond-false (port.0 == p.0) false (m.present port) (ne_eqb port.0 p.0 (λ e. both_ways _ out (eq-eqb p.0 port.0 (sym e)))) ∙ here
stays_in m (PlugDisk p id size disk) port may out here = cond_both (port.0 == p.0) true (m.present port) (λ b. b ≡ true) (λ _. refl) (λ _. here)
stays_in m (Touch e i block) port may out here = here
stays_in m (Accept request) port may out here = here
stays_in m (Issue mode e) port may out here = here
stays_in m (End e) port may out here = here
stays_in m (Age ready) port may out here = here
stays_in m (WaitAgain e) port may out here = here
stays_in m (Answer e outcome) port may out here = here
stays_in m (Revoke client number) port may out here = here
stays_in m Release port may out here = here
stays_in m (Store client frame offset bytes) port may out here = here
stays_in m (Load client frame offset bytes) port may out here = here

since_more : (w : Accepted) (k : ℕ) (step : Step) (h : List Step) (block : Block) → IsWrittenByOrAfterOnAnyDisk w k h block → IsWrittenByOrAfterOnAnyDisk w k (step ∷ h) block
since_more w k step h block s = record { writer = s.writer; op_changes_sectors = s.op_changes_sectors; port_is = s.port_is; is_not_accepted_before = s.is_not_accepted_before; disk_number = s.disk_number; touched = inr s.touched; block_is = s.block_is }

since_bytes : (w : Accepted) (k : ℕ) (h : List Step) (a b : Block) → SameBytes a b → IsWrittenByOrAfterOnAnyDisk w k h b → IsWrittenByOrAfterOnAnyDisk w k h a
since_bytes w k h a b e s = record { writer = s.writer; op_changes_sectors = s.op_changes_sectors; port_is = s.port_is; is_not_accepted_before = s.is_not_accepted_before; disk_number = s.disk_number; touched = s.touched; block_is = λ x lt. e x lt ∙ s.block_is x lt }

since_same : (w : Accepted) (k : ℕ) (h : List Step) (a b : Block) → a ≡ b → IsWrittenByOrAfterOnAnyDisk w k h b → IsWrittenByOrAfterOnAnyDisk w k h a
since_same w k h a b e s = since_bytes w k h a b (λ x lt. ap (λ (c : Block). c x) e) s

-- a writer's touch after w's is of w or a later request
since_written : (m : Machine) (step : Step) (h : List Step) (w : Accepted) (k : ℕ) → Seen m w k → changes_sectors w.asked.op ≡ true → (t : IsWritten m step w.port k) → IsWrittenByOrAfterOnAnyDisk w k (step ∷ h) ((after_step m step).disk_bytes w.port k)
since_written m step h w k seen writes t = record {
  writer = t.entry.request;
  op_changes_sectors = t.writes;
  port_is = t.here;
  is_not_accepted_before = ⊎_elim
      (λ (less : t.entry.request.id.0 < w.id.0). absurd (seen.order t.entry (runs_lives m t.entry t.runs) less
      (conflict_at t.entry.request w k t.here (or_left _ _ t.writes) t.from t.to seen.from seen.to)))
      (λ (le : w.id.0 ≤ t.entry.request.id.0). le) (cases_lt t.entry.request.id.0 w.id.0);
  disk_number = plug_count t.entry.request.port h;
  touched = inl (t.touched, refl);
  block_is = λ x lt. ap (λ (c : Block). c x) t.is;
}

-- A sector of w that is touched, with a disk in, and that holds w's block or a later one.
record Stage (start : Machine) (h : List Step) (w : Accepted) (k : ℕ) : Type 0 where
  here : (after start h).present w.port ≡ true
  inside : k < (after start h).sizes w.port
  disk : ℕ
  touched : HasTouched w k disk h
  since : IsWrittenByOrAfterOnAnyDisk w k h ((after start h).disk_bytes w.port k)

-- the disk keeps its size, unless another comes
sizes_stay : (m : Machine) (step : Step) (port : Port) → IsEnabled m step → plugs_other_disk m port step ≡ false → (after_step m step).sizes port ≡ m.sizes port
sizes_stay m (PlugDisk p id size disk) port may other = ⊎_elim
    (λ (ne : (p.0 == port.0) ≡ false). cond-false (port.0 == p.0) size (m.sizes port) (ne_eqb port.0 p.0 (λ e. eqb-false p.0 port.0 ne (sym e))))
    (λ (same : not (id == m.disk_ids port) ≡ false). cond_both (port.0 == p.0) size (m.sizes port) (λ n. n ≡ m.sizes port)
    (λ here. let at : p ≡ port = sym (ap (λ (n : ℕ). record { 0 = n }) (eqb-true port.0 p.0 here)) in
    subst (λ (q : Port). size ≡ m.sizes q) at (may.1 (subst (λ (q : Port). id ≡ m.disk_ids q) (sym at) (eqb-true id (m.disk_ids port) (not-false _ same)))))
    (λ _. refl))
    (and_cases (p.0 == port.0) (not (id == m.disk_ids port)) other)
sizes_stay m _ port may other = refl

-- another disk comes only where none is in
other_absent : (m : Machine) (step : Step) (port : Port) → IsEnabled m step → plugs_other_disk m port step ≡ true → m.present port ≡ false
other_absent m (PlugDisk p i n d) port may t = ap m.present (sym (ap (λ (n : ℕ). record { 0 = n }) (eqb-true p.0 port.0 (and_parts _ _ t).0))) ∙ may.0
other_absent m (Answer e outcome) port may t = absurd (false≢true t)
other_absent m (Accept request) port may t = absurd (false≢true t)
other_absent m (Issue mode e) port may t = absurd (false≢true t)
other_absent m (Touch e i block) port may t = absurd (false≢true t)
other_absent m (End e) port may t = absurd (false≢true t)
other_absent m (Age ready) port may t = absurd (false≢true t)
other_absent m (WaitAgain e) port may t = absurd (false≢true t)
other_absent m (Revoke client number) port may t = absurd (false≢true t)
other_absent m Release port may t = absurd (false≢true t)
other_absent m (Unplug q) port may t = absurd (false≢true t)
other_absent m (Store client frame offset bytes) port may t = absurd (false≢true t)
other_absent m (Load client frame offset bytes) port may t = absurd (false≢true t)

none_other : (m : Machine) (step : Step) (port : Port) → IsEnabled m step → m.present port ≡ true → plugs_other_disk m port step ≡ false
none_other m step port may here = false_from_ne_true _ (λ t. both_ways _ (other_absent m step port may t) here)

absent_here : (m : Machine) (port : Port) → m.present port ≡ true → m.present port ≡ false → ⊥
absent_here m port a b = both_ways _ b a

stage_step : (start : Machine) (step : Step) (past : List Step) (w : Accepted) (k : ℕ) → IsInitial start → AllEnabled start (step ∷ past) → changes_sectors w.asked.op ≡ true
    → unplugs_disk_of w.port step ≡ false → Stage start past w k → Stage start (step ∷ past) w k
stage_step start step past w k s enabled writes out g = record {
  here = stays_in (after start past) step w.port enabled.1 out g.here;
  inside = subst (λ (n : ℕ). k < n) (sym (sizes_stay (after start past) step w.port enabled.1 (none_other (after start past) step w.port enabled.1 g.here))) g.inside;
  disk = g.disk;
  touched = inr g.touched;
  since = ⊎_elim
      (λ (idle : IsIdle (after start past) step w.port k). since_same w k (step ∷ past) _ _ idle.same (since_more w k step past _ g.since))
      (λ (x : IsWritten (after start past) step w.port k ⊎ IsReplaced (after start past) step w.port). ⊎_elim
      (λ (t : IsWritten (after start past) step w.port k). since_written (after start past) step past w k ((traced start past s enabled.0).seen w k g.disk g.touched) writes t)
      (λ (r : IsReplaced (after start past) step w.port). absurd (absent_here (after start past) w.port g.here r.absent)) x)
      (effect (after start past) step w.port k enabled.1);
}

-- the step is a touch of sector number i by this request
abbrev IsTouchAt : Step → Accepted → ℕ → Type 0
IsTouchAt (Touch e n block) request i = (e.request ≡ request) × (n ≡ i)
IsTouchAt _ request i = ⊥

-- where a request with a touched sector comes from
abbrev Came : Machine → Step → Pending → ℕ → Type 0
Came m step x i = ((o : Pending) × Contains m.book o × (x.request ≡ o.request) × (o.touched i ≡ true)) ⊎ IsTouchAt step x.request i

came_at : (m : Machine) (step : Step) (id : RequestId) (f : Pending → Pending) (x : Pending) (i : ℕ) → Contains (map (update_pending id f) m.book) x → ((e : Pending) → (f e).request ≡ e.request) → ((e : Pending) → (f e).touched i ≡ true → e.touched i ≡ true)
    → x.touched i ≡ true → Came m step x i
came_at m step id f x i hx kj kt t =
    let r = map_in (update_pending id f) m.book x hx in
    ⊎_elim
    (λ p. inl (r.0, r.1, ap (λ (y : Pending). y.request) (r.2 ∙ p.1) ∙ kj r.0, kt r.0 (subst (λ (y : Pending). y.touched i ≡ true) (r.2 ∙ p.1) t)))
    (λ p. inl (r.0, r.1, ap (λ (y : Pending). y.request) (r.2 ∙ p.1), subst (λ (y : Pending). y.touched i ≡ true) (r.2 ∙ p.1) t))
    (at_cases id f r.0)

came_touch : (m : Machine) → Sound m → (e : Pending) (n : ℕ) (block : Block) (x : Pending) (i : ℕ) → IsIssuedOrKept m e → Contains (map (update_pending e.request.id (touch n)) m.book) x → x.touched i ≡ true → Came m (Touch e n block) x i
came_touch m s e n block x i run hx t =
    let r = map_in (update_pending e.request.id (touch n)) m.book x hx in
    ⊎_elim
    (λ p. ⊎_elim
    (λ (q : (i == n) ≡ true). inr (lives_one m s e r.0 (runs_lives m e run) (inl r.1) (sym p.0) ∙ sym (ap (λ (y : Pending). y.request) (r.2 ∙ p.1)), sym (eqb-true i n q)))
    (λ (q : r.0.touched i ≡ true). inl (r.0, r.1, ap (λ (y : Pending). y.request) (r.2 ∙ p.1), q))
    (or_cases (i == n) (r.0.touched i) (subst (λ (y : Pending). y.touched i ≡ true) (r.2 ∙ p.1) t)))
    (λ p. inl (r.0, r.1, ap (λ (y : Pending). y.request) (r.2 ∙ p.1), subst (λ (y : Pending). y.touched i ≡ true) (r.2 ∙ p.1) t))
    (at_cases e.request.id (touch n) r.0)

came : (m : Machine) (step : Step) → IsEnabled m step → Sound m → (x : Pending) (i : ℕ) → Contains (after_step m step).book x → x.touched i ≡ true → Came m step x i
came m (Accept request) may s x i hx t = ⊎_elim (λ (p : Contains m.book x). inl (x, p, refl, t)) (λ (p : x ≡ newly_accepted request). absurd (false≢true (subst (λ (y : Pending). y.touched i ≡ true) p t))) (append_in m.book (newly_accepted request) x hx)
came m (Issue mode e) may s x i hx t = came_at m (Issue mode e) e.request.id newly_issued x i hx (λ y. refl) (λ y q. absurd (false≢true q)) t
came m (Touch e n block) may s x i hx t = came_touch m s e n block x i may.0 hx t
came m (End e) may s x i hx t = came_at m (End e) e.request.id mark_ended x i hx (λ y. refl) (λ y q. q) t
came m (Age ready) may s x i hx t = let r = map_in (aged_pending ready) m.book x hx in
    inl (r.0, r.1, ap (λ (y : Pending). y.request) r.2 ∙ older_keeps ready r.0, subst (λ (f : ℕ → Bool). f i ≡ true) (ap (λ (y : Pending). y.touched) r.2 ∙ older_touched ready r.0) t)
came m (WaitAgain e) may s x i hx t = came_at m (WaitAgain e) e.request.id requeued x i hx (λ y. refl) (λ y q. absurd (false≢true q)) t
came m (Answer e outcome) may s x i hx t = inl (x, (without_in e.request.id m.book x hx).0, refl, t)
came m (Revoke client number) may s x i hx t = inl (x, hx, refl, t)
came m Release may s x i hx t = inl (x, hx, refl, t)
came m (Unplug port) may s x i hx t = inl (x, hx, refl, t)
came m (PlugDisk port id size disk) may s x i hx t = inl (x, hx, refl, t)
came m (Store client frame offset bytes) may s x i hx t = inl (x, hx, refl, t)
came m (Load client frame offset bytes) may s x i hx t = inl (x, hx, refl, t)

-- a writer that touches its sector number i now
stage_now : (start : Machine) (step : Step) (past : List Step) (w : Accepted) (i : ℕ) → IsInitial start → AllEnabled start (step ∷ past) → changes_sectors w.asked.op ≡ true → unplugs_disk_of w.port step ≡ false
    → IsTouchAt step w i → Stage start (step ∷ past) w (w.asked.first.0 + i)
stage_now start (Touch e n block) past w i s enabled writes out t =
    let k : ℕ = w.asked.first.0 + i in
    let touched : IsTouch (Touch e n block) w k = (t.0, ap (λ (x : ℕ). sector_of w x) t.1) in
    let here : (after start past).present w.port ≡ true = ap (λ (j : Accepted). (after start past).present j.port) (sym t.0) ∙ enabled.1.2 in
    record {
      here = here;
      inside = subst (λ (x : ℕ). x < (after start past).sizes w.port) touched.1 (subst (λ (j : Accepted). sector_of j n < (after start past).sizes j.port) t.0 enabled.1.3);
      disk = plug_count w.port past;
      touched = inl (touched, refl);
      since = ⊎_elim
          (λ (idle : IsIdle (after start past) (Touch e n block) w.port k). absurd (idle.quiet w writes refl touched))
          (λ (x : IsWritten (after start past) (Touch e n block) w.port k ⊎ IsReplaced (after start past) (Touch e n block) w.port). ⊎_elim
          (λ (q : IsWritten (after start past) (Touch e n block) w.port k). since_written (after start past) (Touch e n block) past w k (seen_touch (after start past) (Touch e n block) enabled.1 (traced start past s enabled.0).sound w k touched) writes q)
          (λ (q : IsReplaced (after start past) (Touch e n block) w.port). absurd q.step_is) x)
          (effect (after start past) (Touch e n block) w.port k enabled.1);
    }
stage_now start _ past w i s enabled writes out t = absurd t

answer_ok : (step : Step) (w : Accepted) → AnswersOk step w → (e : Pending) × (step ≡ Answer e Ok) × (e.request ≡ w)
answer_ok (Answer e Ok) w t = (e, refl, t)
answer_ok (Answer e (DeviceError status error)) w t = absurd t
answer_ok _ w t = absurd t

accept_of : (step : Step) (w : Accepted) → IsAccept step w → step ≡ Accept w
accept_of (Accept request) w t = ap Accept t
accept_of _ w t = absurd t

-- what the answer Ok of a request says of its request
ok_entry : (m : Machine) (step : Step) (w : Accepted) → IsEnabled m step → IsWhole step → AnswersOk step w → (e : Pending) × Contains m.book e × (e.request ≡ w) × ((i : ℕ) → i < w.asked.count → e.touched i ≡ true) × (e.ended ≡ true)
ok_entry m step w may whole ok =
    let r = answer_ok step w ok in
    let here : IsEnabled m (Answer r.0 Ok) = subst (λ (x : Step). IsEnabled m x) r.1 may in
    let law : IsWhole (Answer r.0 Ok) = subst (λ (x : Step). IsWhole x) r.1 whole in
    (r.0, here.0, r.2, (λ i lt. law.0 i (subst (λ (j : Accepted). i < j.asked.count) (sym r.2) lt)), law.1)

ok_out : (port : Port) (step : Step) (w : Accepted) → AnswersOk step w → unplugs_disk_of port step ≡ false
ok_out port step w ok = let r = answer_ok step w ok in ap (unplugs_disk_of port) r.1

accept_out : (port : Port) (step : Step) (w : Accepted) → IsAccept step w → unplugs_disk_of port step ≡ false
accept_out port step w t = ap (unplugs_disk_of port) (accept_of step w t)

-- a request that is accepted now has nothing touched and isn't ended
new_entry : (m : Machine) (step : Step) (w : Accepted) → IsEnabled m step → Sound m → IsAccept step w → (x : Pending) → Contains (after_step m step).book x → x.request ≡ w → x ≡ newly_accepted w
new_entry m step w may s t x hx same =
    let e = accept_of step w t in
    let new : IsEnabled m (Accept w) = subst (λ (y : Step). IsEnabled m y) e may in
    ⊎_elim
    (λ (i : Contains m.book x). let b = s.below x (inl i) in let q : x.request.id.0 ≡ w.id.0 = ap (λ (j : Accepted). j.id.0) same in let n = new.id_is_next in absurd (omega (arith, b, q, n)))
    (λ (p : x ≡ newly_accepted w). p)
    (append_in m.book (newly_accepted w) x (subst (λ (y : Step). Contains (after_step m y).book x) e hx))

-- Each sector that an accepted writer touched is at its stage, while no disk was taken out.
accepted_stage : (start : Machine) (h : List Step) (w : Accepted) → IsInitial start → AllEnabled start h → changes_sectors w.asked.op ≡ true → WriteAcceptedSinceLastUnplug w h
    → (x : Pending) → Contains (after start h).book x → x.request ≡ w → (i : ℕ) → x.touched i ≡ true → Stage start h w (w.asked.first.0 + i)
accepted_stage start [] w s enabled writes a x hx same i t = absurd a
accepted_stage start (step ∷ past) w s enabled writes (inl a) x hx same i t =
    let p = new_entry (after start past) step w enabled.1 (traced start past s enabled.0).sound a x hx same in
    absurd (false≢true (subst (λ (y : Pending). y.touched i ≡ true) p t))
accepted_stage start (step ∷ past) w s enabled writes (inr a) x hx same i t = ⊎_elim
    (λ (o : (o : Pending) × Contains (after start past).book o × (x.request ≡ o.request) × (o.touched i ≡ true)).
    stage_step start step past w (w.asked.first.0 + i) s enabled writes a.0 (accepted_stage start past w s enabled.0 writes a.1 o.0 o.1 (sym o.2 ∙ same) i o.3))
    (λ (q : IsTouchAt step x.request i). stage_now start step past w i s enabled writes a.0 (subst (λ (j : Accepted). IsTouchAt step j i) same q))
    (came (after start past) step enabled.1 (traced start past s enabled.0).sound x i hx t)

stored_stage : (start : Machine) (h : List Step) (w : Accepted) → IsInitial start → AllEnabled start h → AllWhole h → changes_sectors w.asked.op ≡ true → WriteOkSinceLastUnplug w h → (i : ℕ) → i < w.asked.count → Stage start h w (w.asked.first.0 + i)
stored_stage start [] w s enabled whole writes a i lt = absurd a
stored_stage start (step ∷ past) w s enabled whole writes (inl a) i lt =
    let e = ok_entry (after start past) step w enabled.1 whole.1 a.0 in
    stage_step start step past w (w.asked.first.0 + i) s enabled writes (ok_out w.port step w a.0)
    (accepted_stage start past w s enabled.0 writes a.1 e.0 e.1 e.2 i (e.3 i lt))
stored_stage start (step ∷ past) w s enabled whole writes (inr a) i lt = stage_step start step past w (w.asked.first.0 + i) s enabled writes a.0 (stored_stage start past w s enabled.0 whole.0 writes a.1 i lt)

asked_stage : (start : Machine) (h : List Step) (w flush : Accepted) → IsInitial start → AllEnabled start h → AllWhole h → changes_sectors w.asked.op ≡ true → FlushAcceptedAfterOkWriteSinceLastUnplug w flush h → (i : ℕ) → i < w.asked.count → Stage start h w (w.asked.first.0 + i)
asked_stage start [] w flush s enabled whole writes a i lt = absurd a
asked_stage start (step ∷ past) w flush s enabled whole writes (inl a) i lt = stage_step start step past w (w.asked.first.0 + i) s enabled writes (accept_out w.port step flush a.0) (stored_stage start past w s enabled.0 whole.0 writes a.1 i lt)
asked_stage start (step ∷ past) w flush s enabled whole writes (inr a) i lt = stage_step start step past w (w.asked.first.0 + i) s enabled writes a.0 (asked_stage start past w flush s enabled.0 whole.0 writes a.1 i lt)

-- Every block that the sector held since the last flush is w's or a later one.
record Lasts (start : Machine) (h : List Step) (w : Accepted) (k : ℕ) : Type 0 where
  inside : k < (after start h).sizes w.port
  disk : ℕ
  touched : HasTouched w k disk h
  since : (block : Block) → HeldSince start w.port k block h → IsWrittenByOrAfterOnAnyDisk w k h block

pub held_now : (start : Machine) (port : Port) (k : ℕ) (h : List Step) → HeldSince start port k ((after start h).disk_bytes port k) h
held_now start port k [] = inl (λ b lt. refl)
held_now start port k (step ∷ past) = inl (λ b lt. refl)

same_disk : (start : Machine) (past : List Step) (step : Step) (port : Port) (k id size : ℕ) (disk : DiskBytes) → IsEnabled (after start past) step → ComesBack start past step → plugs_other_disk (after start past) port step ≡ false
    → k < (after start past).sizes port → IsReplace step port id size disk → HeldSince start port k (disk k) past
same_disk start past (PlugDisk p i n d) port k id size disk may back other inside t =
    let named : i ≡ (after start past).disk_ids port = ⊎_elim
    (λ (f : (p.0 == port.0) ≡ false). absurd (eqb-false p.0 port.0 f (ap (λ (q : Port). q.0) t.0)))
    (λ (f : not (i == (after start past).disk_ids port) ≡ false). eqb-true i ((after start past).disk_ids port) (not-false _ f))
    (and_cases (p.0 == port.0) (not (i == (after start past).disk_ids port)) other) in
    let named' : i ≡ (after start past).disk_ids p = named ∙ ap (λ (x : Port). (after start past).disk_ids x) (sym t.0) in
    let large : n ≡ (after start past).sizes port = may.1 named' ∙ ap (λ (x : Port). (after start past).sizes x) t.0 in
    subst (λ (x : DiskBytes). HeldSince start port k (x k) past) t.3
    (subst (λ (x : Port). HeldSince start x k (d k) past) t.0 (back named' k (omega (arith, large, inside))))
same_disk start past _ port k id size disk may back other inside t = absurd t

lasts_step : (start : Machine) (step : Step) (past : List Step) (w : Accepted) (k : ℕ) → IsInitial start → AllEnabled start (step ∷ past) → changes_sectors w.asked.op ≡ true
    → ComesBack start past step → plugs_other_disk (after start past) w.port step ≡ false → Lasts start past w k → Lasts start (step ∷ past) w k
lasts_step start step past w k s enabled writes back other g = record {
  inside = subst (λ (n : ℕ). k < n) (sym (sizes_stay (after start past) step w.port enabled.1 other)) g.inside;
  disk = g.disk;
  touched = inr g.touched;
  since = λ block held. ⊎_elim
      (λ (now : SameBytes block ((after start (step ∷ past)).disk_bytes w.port k)). since_bytes w k (step ∷ past) block _ now current)
      (λ (before : (starts_lasting (after start past) w.port step ≡ false) × HeldSince start w.port k block past). since_more w k step past block (g.since block before.1))
      held;
}
  where
    current : IsWrittenByOrAfterOnAnyDisk w k (step ∷ past) ((after start (step ∷ past)).disk_bytes w.port k)
    current = ⊎_elim
        (λ (idle : IsIdle (after start past) step w.port k). since_same w k (step ∷ past) _ _ idle.same (since_more w k step past _ (g.since _ (held_now start w.port k past))))
        (λ (x : IsWritten (after start past) step w.port k ⊎ IsReplaced (after start past) step w.port). ⊎_elim
        (λ (t : IsWritten (after start past) step w.port k). since_written (after start past) step past w k ((traced start past s enabled.0).seen w k g.disk g.touched) writes t)
        (λ (r : IsReplaced (after start past) step w.port). since_same w k (step ∷ past) _ (r.disk k) (ap (λ (d : DiskBytes). d k) r.is)
        (since_more w k step past (r.disk k) (g.since (r.disk k) (same_disk start past step w.port k r.id r.size r.disk enabled.1 back other g.inside r.step_is)))) x)
        (effect (after start past) step w.port k enabled.1)

abbrev IsEnd : Step → Accepted → Type 0
IsEnd (End e) request = e.request ≡ request
IsEnd _ request = ⊥

-- where an ended request comes from
abbrev Ended : Machine → Step → Pending → Type 0
Ended m step x = ((o : Pending) × Contains m.book o × (x.request ≡ o.request) × (o.ended ≡ true)) ⊎ IsEnd step x.request

ended_at : (m : Machine) (step : Step) (id : RequestId) (f : Pending → Pending) (x : Pending) → Contains (map (update_pending id f) m.book) x → ((e : Pending) → (f e).request ≡ e.request) → ((e : Pending) → (f e).ended ≡ true → e.ended ≡ true)
    → x.ended ≡ true → Ended m step x
ended_at m step id f x hx kj kt t =
    let r = map_in (update_pending id f) m.book x hx in
    ⊎_elim
    (λ p. inl (r.0, r.1, ap (λ (y : Pending). y.request) (r.2 ∙ p.1) ∙ kj r.0, kt r.0 (subst (λ (y : Pending). y.ended ≡ true) (r.2 ∙ p.1) t)))
    (λ p. inl (r.0, r.1, ap (λ (y : Pending). y.request) (r.2 ∙ p.1), subst (λ (y : Pending). y.ended ≡ true) (r.2 ∙ p.1) t))
    (at_cases id f r.0)

ended_end : (m : Machine) → Sound m → (e : Pending) (x : Pending) → IsIssuedOrKept m e → Contains (map (update_pending e.request.id mark_ended) m.book) x → x.ended ≡ true → Ended m (End e) x
ended_end m s e x run hx t =
    let r = map_in (update_pending e.request.id mark_ended) m.book x hx in
    ⊎_elim
    (λ p. inr (lives_one m s e r.0 (runs_lives m e run) (inl r.1) (sym p.0) ∙ sym (ap (λ (y : Pending). y.request) (r.2 ∙ p.1))))
    (λ p. inl (r.0, r.1, ap (λ (y : Pending). y.request) (r.2 ∙ p.1), subst (λ (y : Pending). y.ended ≡ true) (r.2 ∙ p.1) t))
    (at_cases e.request.id mark_ended r.0)

older_ended : (ready : Port → Bool) (e : Pending) → (aged_pending ready e).ended ≡ e.ended
older_ended ready e = elim (e.issued && ready e.request.port) as (λ b. (cond b (record e { age = suc e.age }) e).ended ≡ e.ended) [ true ↦ refl | false ↦ refl ]

ended : (m : Machine) (step : Step) → IsEnabled m step → Sound m → (x : Pending) → Contains (after_step m step).book x → x.ended ≡ true → Ended m step x
ended m (Accept request) may s x hx t = ⊎_elim (λ (p : Contains m.book x). inl (x, p, refl, t)) (λ (p : x ≡ newly_accepted request). absurd (false≢true (subst (λ (y : Pending). y.ended ≡ true) p t))) (append_in m.book (newly_accepted request) x hx)
ended m (Issue mode e) may s x hx t = ended_at m (Issue mode e) e.request.id newly_issued x hx (λ y. refl) (λ y q. absurd (false≢true q)) t
ended m (Touch e n block) may s x hx t = ended_at m (Touch e n block) e.request.id (touch n) x hx (λ y. refl) (λ y q. q) t
ended m (End e) may s x hx t = ended_end m s e x may.0 hx t
ended m (Age ready) may s x hx t = let r = map_in (aged_pending ready) m.book x hx in
    inl (r.0, r.1, ap (λ (y : Pending). y.request) r.2 ∙ older_keeps ready r.0, sym (ap (λ (y : Pending). y.ended) r.2 ∙ older_ended ready r.0) ∙ t)
ended m (WaitAgain e) may s x hx t = ended_at m (WaitAgain e) e.request.id requeued x hx (λ y. refl) (λ y q. absurd (false≢true q)) t
ended m (Answer e outcome) may s x hx t = inl (x, (without_in e.request.id m.book x hx).0, refl, t)
ended m (Revoke client number) may s x hx t = inl (x, hx, refl, t)
ended m Release may s x hx t = inl (x, hx, refl, t)
ended m (Unplug port) may s x hx t = inl (x, hx, refl, t)
ended m (PlugDisk port id size disk) may s x hx t = inl (x, hx, refl, t)
ended m (Store client frame offset bytes) may s x hx t = inl (x, hx, refl, t)
ended m (Load client frame offset bytes) may s x hx t = inl (x, hx, refl, t)

-- at the end of a flush, what the sector held is what it holds
lasts_end : (start : Machine) (step : Step) (past : List Step) (w : Accepted) (flush : Accepted) (k : ℕ) → flush.port ≡ w.port → flush.asked.op ≡ Flush → IsEnd step flush → Stage start (step ∷ past) w k → Lasts start (step ∷ past) w k
lasts_end start (End e) past w flush k port op t g = record {
  inside = g.inside;
  disk = g.disk;
  touched = g.touched;
  since = λ block held. ⊎_elim
      (λ (now : SameBytes block ((after start (End e ∷ past)).disk_bytes w.port k)). since_bytes w k (End e ∷ past) block _ now g.since)
      (λ (before : (starts_lasting (after start past) w.port (End e) ≡ false) × HeldSince start w.port k block past). absurd (both_ways _ before.0
      (and_from _ _ (eq-eqb e.request.port.0 w.port.0 (ap (λ (q : Port). q.0) (ap (λ (j : Accepted). j.port) t ∙ port))) (ap is_flush (ap (λ (j : Accepted). j.asked.op) t ∙ op)))))
      held;
}
lasts_end start _ past w flush k port op t g = absurd t

asked_lasts : (start : Machine) (h : List Step) (w flush : Accepted) → IsInitial start → AllEnabled start h → AllWhole h → IsVolatile start h → changes_sectors w.asked.op ≡ true → flush.port ≡ w.port → flush.asked.op ≡ Flush
    → FlushAcceptedAfterOkWriteSinceLastUnplug w flush h → (x : Pending) → Contains (after start h).book x → x.request ≡ flush → x.ended ≡ true → (i : ℕ) → i < w.asked.count → Lasts start h w (w.asked.first.0 + i)
asked_lasts start [] w flush s enabled whole back writes port op a x hx same t i lt = absurd a
asked_lasts start (step ∷ past) w flush s enabled whole back writes port op (inl a) x hx same t i lt =
    let p = new_entry (after start past) step flush enabled.1 (traced start past s enabled.0).sound a.0 x hx same in
    absurd (false≢true (subst (λ (y : Pending). y.ended ≡ true) p t))
asked_lasts start (step ∷ past) w flush s enabled whole back writes port op (inr a) x hx same t i lt = ⊎_elim
    (λ (o : (o : Pending) × Contains (after start past).book o × (x.request ≡ o.request) × (o.ended ≡ true)).
    lasts_step start step past w (w.asked.first.0 + i) s enabled writes back.1
    (none_other (after start past) step w.port enabled.1 (asked_stage start past w flush s enabled.0 whole.0 writes a.1 i lt).here)
    (asked_lasts start past w flush s enabled.0 whole.0 back.0 writes port op a.1 o.0 o.1 (sym o.2 ∙ same) o.3 i lt))
    (λ (q : IsEnd step x.request). lasts_end start step past w flush (w.asked.first.0 + i) port op (subst (λ (j : Accepted). IsEnd step j) same q)
    (stage_step start step past w (w.asked.first.0 + i) s enabled writes a.0 (asked_stage start past w flush s enabled.0 whole.0 writes a.1 i lt)))
    (ended (after start past) step enabled.1 (traced start past s enabled.0).sound x hx t)

ok_other : (m : Machine) (port : Port) (step : Step) (w : Accepted) → AnswersOk step w → plugs_other_disk m port step ≡ false
ok_other m port step w ok = let r = answer_ok step w ok in ap (plugs_other_disk m port) r.1

flushed_lasts : (start : Machine) (h : List Step) (w flush : Accepted) → IsInitial start → AllEnabled start h → AllWhole h → IsVolatile start h → changes_sectors w.asked.op ≡ true → flush.port ≡ w.port → flush.asked.op ≡ Flush
    → FlushOkAfterOkWriteOnSameDisk start w flush h → (i : ℕ) → i < w.asked.count → Lasts start h w (w.asked.first.0 + i)
flushed_lasts start [] w flush s enabled whole back writes port op a i lt = absurd a
flushed_lasts start (step ∷ past) w flush s enabled whole back writes port op (inl a) i lt =
    let e = ok_entry (after start past) step flush enabled.1 whole.1 a.0 in
    lasts_step start step past w (w.asked.first.0 + i) s enabled writes back.1 (ok_other (after start past) w.port step flush a.0)
    (asked_lasts start past w flush s enabled.0 whole.0 back.0 writes port op a.1 e.0 e.1 e.2 e.4 i lt)
flushed_lasts start (step ∷ past) w flush s enabled whole back writes port op (inr a) i lt =
    lasts_step start step past w (w.asked.first.0 + i) s enabled writes back.1 a.0 (flushed_lasts start past w flush s enabled.0 whole.0 back.0 writes port op a.1 i lt)

-- a disk that comes back has the writes that were flushed
finds : (start : Machine) (past : List Step) (step : Step) → IsInitial start → AllEnabled start (step ∷ past) → AllWhole past → IsVolatile start (step ∷ past) → ReplugFindsFlushedOrLater start past step
finds start past (PlugDisk port id size disk) s enabled whole back = λ same w flush here f i lt.
    let lasts = flushed_lasts start past w flush s enabled.0 whole back.0 f.op_changes_sectors f.flush_port_is f.flush_is f.flush_is_ok_after_write i lt in
    let inside : sector_of w i < (after start past).sizes port = subst (λ (p : Port). sector_of w i < (after start past).sizes p) here lasts.inside in
    let large = enabled.1.1 same in
    lasts.since (disk (sector_of w i)) (subst (λ (p : Port). HeldSince start p (sector_of w i) (disk (sector_of w i)) past) (sym here) (back.1 same (sector_of w i) (omega (arith, inside, large))))
finds start past _ s enabled whole back = tt

pub law_flushed_writes_survive_replug : (start : Machine) (h : List Step) → IsInitial start → AllEnabled start h → AllWhole h → IsVolatile start h → EveryReplugFindsFlushedOrLater start h
law_flushed_writes_survive_replug start [] s enabled whole back = tt
law_flushed_writes_survive_replug start (step ∷ past) s enabled whole back = (law_flushed_writes_survive_replug start past s enabled.0 whole.0 back.0, finds start past step s enabled whole.0 back)

-- a disk that comes back in a run has the writes that were flushed
pub run_finds : {D : Type 0} (first : AbstractState) (run : List (CallRecord D)) → IsRun first run → IsVolatile first.machine (steps_of run) → EveryReplugFindsFlushedOrLater first.machine (steps_of run)
run_finds first run r back = law_flushed_writes_survive_replug first.machine (steps_of run) (run_starts first run r) (run_steps_are_enabled first run r) (run_whole first run r) back
