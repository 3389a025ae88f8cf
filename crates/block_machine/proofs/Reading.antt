-- What each read under way has at its places.
use Rattle.std.proofs.Common.{◌≡◌, ◌⊎◌, ℕ, ◌+◌, ◌-◌, ◌*◌, ◌/◌, ◌%◌, ◌<◌, ◌≤◌, Bool, true, false, ◌&&◌, ◌==◌, ltb, leb, List, ◌∷◌, length, map, slice_index, Option, Some, None, IsSome, inl, ⊎_elim, refl, sym, ap, ◌∙◌, subst, arith, eqb-true, eq-eqb, ne_eqb, lt-ltb, le-leb, le_refl, ltb-true, leb-true}
use Rattle.std.proofs.lemmas.Bool.{cases_eq, cases_order, or_cases, or_left, or_right, and_parts, and_from, and_left, and_right, cond-true, cond-false, false≢true, false_from_ne_true}
use Rattle.std.specs.List.{Contains}
use Rattle.ata_types.specs.declared.request.ClientId.{ClientId}
use Rattle.ata_types.specs.declared.request.Frame.{Frame}
use Rattle.ata_types.specs.declared.request.RequestId.{RequestId}
use Rattle.ata_types.specs.declared.request.Op.{Op}
use Rattle.ata_types.specs.declared.request.Op.TheVariants.{Read, Write, Trim, Flush}
use Rattle.ata_types.specs.declared.refusal.MemFault.TheVariants as fault
use Rattle.block_machine.specs.Refusals.{MayAccessFrame}
use Rattle.block_machine.specs.DueRequests.{changes_sectors}
use Rattle.block_machine.specs.State.{Block, Memory, Accepted, Pending, Machine, block_of, nth_frame, sector_of, is_reader}
use Rattle.block_machine.specs.Steps.{Step, Accept, Issue, Touch, End, Age, WaitAgain, Answer, Revoke, Release, Unplug, PlugDisk, Store, Load, IsEnabled, after_step, update_pending, IsInBookOrKept, IsIssuedOrKept, newly_issued, touch, mark_ended, requeued, aged_pending, newly_accepted, put_bytes, memory_after_touch}
use Rattle.block_machine.specs.Expected.{plug_count, IsTouch, touches_sector, disk_number_read, ChangedSector, IsLastWrittenOrPluggedIn, IsExpectedBlock, StepIsFaithful}
use Rattle.block_machine.proofs.Members.{map_in, at_cases, without_in, append_in}
use Rattle.block_machine.proofs.Sound.{Sound, KeepsRequest}
use Rattle.block_machine.proofs.Keeps.{older_keeps, older_issued, older_touched, same_frame}
use Rattle.block_machine.proofs.Trace.{lives_one, runs_lives, conflict_at, read_number, last_from}
use Rattle.block_machine.proofs.Content.{AllSeen, Holds}

-- the sector stands at its place as it was left
abbrev pub IsGood : Machine → List Step → Machine → Accepted → ℕ → Type 0
IsGood start h m request i =
    (block : Block) × IsExpectedBlock start h request (request.asked.first.0 + i) block × ((b : ℕ) → b < 512 → block_of m.memory request.asked.frames.items i b ≡ block b)

-- each sector that a read touched since its last issue is good
abbrev pub AllGood : Machine → List Step → Machine → Type 0
AllGood start h m =
    (e : Pending) → Contains m.book e → is_reader e.request.asked.op ≡ true → (i : ℕ) → i < e.request.asked.count → e.touched i ≡ true
    → (e.issued ≡ true) × IsGood start h m e.request i

-- a sector that stays at its place stays good after a step that is no touch of its kind
good_more : (start : Machine) (h : List Step) (m n : Machine) (step : Step) (request : Accepted) (i : ℕ)
    → ((b : ℕ) → b < 512 → block_of n.memory request.asked.frames.items i b ≡ block_of m.memory request.asked.frames.items i b)
    → touches_sector request.id (request.asked.first.0 + i) step ≡ false
    → ((w : Accepted) → changes_sectors w.asked.op ≡ true → w.port ≡ request.port → w.id.0 < request.id.0 → IsTouch step w (request.asked.first.0 + i) → ⊥)
    → IsGood start h m request i → IsGood start (step ∷ h) n request i
good_more start h m n step request i same own others good =
    let k : ℕ = request.asked.first.0 + i in
    let found : disk_number_read request k (step ∷ h) ≡ disk_number_read request k h = cond-false (touches_sector request.id k step) (plug_count request.port h) (disk_number_read request k h) own in (
      good.0,
      subst (λ (x : ℕ). IsLastWrittenOrPluggedIn start request.port k x request.id.0 (step ∷ h) good.0) (sym found)
          (last_from start request.port k (disk_number_read request k h) request.id.0 request.id.0 step h good.0 (read_number request k h) others (λ w o. o.earlier) (λ w o. o.earlier) good.1),
      λ b lt. same b lt ∙ good.2 b lt,
    )

-- a sector that is touched now is good
good_now : (start : Machine) (h : List Step) (m n : Machine) (e : Pending) (i : ℕ) (block : Block) → Sound m → AllSeen m h → Holds start h m → IsIssuedOrKept m e → i < e.request.asked.count → is_reader e.request.asked.op ≡ true
    → ((b : ℕ) → b < 512 → block_of n.memory e.request.asked.frames.items i b ≡ m.disk_bytes e.request.port (e.request.asked.first.0 + i) b)
    → IsGood start (Touch e i block ∷ h) n e.request i
good_now start h m n e i block s seen holds r lt reads now =
    let k : ℕ = e.request.asked.first.0 + i in
    let mine : touches_sector e.request.id k (Touch e i block) ≡ true = and_from _ _ (eq-eqb e.request.id.0 e.request.id.0 refl) (eq-eqb k k refl) in
    let found : disk_number_read e.request k (Touch e i block ∷ h) ≡ plug_count e.request.port h = cond-true (touches_sector e.request.id k (Touch e i block)) (plug_count e.request.port h) (disk_number_read e.request k h) mine in (
      m.disk_bytes e.request.port k,
      subst (λ (x : ℕ). IsLastWrittenOrPluggedIn start e.request.port k x e.request.id.0 (Touch e i block ∷ h) (m.disk_bytes e.request.port k)) (sym found)
          (last_from start e.request.port k (plug_count e.request.port h) m.next_id e.request.id.0 (Touch e i block) h (m.disk_bytes e.request.port k) (le_refl _)
          (λ w writes _ _ t. reader_is_no_writer e.request.asked.op reads (subst (λ (j : Accepted). changes_sectors j.asked.op ≡ true) (sym t.0) writes))
          earlier
          (λ w o. (seen w k (plug_count e.request.port h) o.touched).below)
          (holds e.request.port k)),
      now,
    )
  where
    reader_is_no_writer : (op : Op) → is_reader op ≡ true → changes_sectors op ≡ true → ⊥
    reader_is_no_writer Read a b = false≢true b
    reader_is_no_writer Write a b = false≢true a
    reader_is_no_writer Trim a b = false≢true a
    reader_is_no_writer Flush a b = false≢true a

    earlier : (w : Accepted) → ChangedSector e.request.port (e.request.asked.first.0 + i) (plug_count e.request.port h) m.next_id h w → w.id.0 < e.request.id.0
    earlier w o =
        let q = seen w (e.request.asked.first.0 + i) (plug_count e.request.port h) o.touched in
        ⊎_elim
        (λ (same : e.request.id.0 ≡ w.id.0). absurd (reader_is_no_writer e.request.asked.op reads (subst (λ (j : Accepted). changes_sectors j.asked.op ≡ true) (sym (q.one e (runs_lives m e r) same)) o.op_changes_sectors)))
        (λ (x : (e.request.id.0 < w.id.0) ⊎ (w.id.0 < e.request.id.0)). ⊎_elim
        (λ (less : e.request.id.0 < w.id.0). absurd (q.order e (runs_lives m e r) less
        (conflict_at e.request w (e.request.asked.first.0 + i) (sym o.port_is) (or_right _ _ o.op_changes_sectors) (omega arith) (omega (arith, lt)) q.from q.to)))
        (λ (more : w.id.0 < e.request.id.0). more) x)
        (cases_order e.request.id.0 w.id.0)

-- Places in memory.

-- a write of 512 bytes leaves another place alone
pub put_other : (f f' : Frame) (update_pending at' n : ℕ) (bytes : Block) (memory : Memory) → (f ≡ f' → update_pending ≤ at' → at' < update_pending + n → ⊥) → put_bytes f update_pending n bytes memory f' at' ≡ memory f' at'
put_other f f' update_pending at' n bytes memory apart =
    cond-false ((f'.0 == f.0) && (leb update_pending at' && ltb at' (update_pending + n))) (bytes (at' - update_pending)) (memory f' at')
    (false_from_ne_true _ (λ t.
    let p = and_parts (f'.0 == f.0) (leb update_pending at' && ltb at' (update_pending + n)) t in
    let q = and_parts (leb update_pending at') (ltb at' (update_pending + n)) p.1 in
    apart (sym (same_frame f' f (eqb-true f'.0 f.0 p.0))) (leb-true update_pending at' q.0) (ltb-true at' (update_pending + n) q.1)))

pub put_same : (f : Frame) (update_pending n b : ℕ) (bytes : Block) (memory : Memory) → b < n → put_bytes f update_pending n bytes memory f (update_pending + b) ≡ bytes b
put_same f update_pending n b bytes memory lt =
    cond-true ((f.0 == f.0) && (leb update_pending (update_pending + b) && ltb (update_pending + b) (update_pending + n))) (bytes (update_pending + b - update_pending)) (memory f (update_pending + b))
    (and_from _ _ (eq-eqb f.0 f.0 refl) (and_from _ _ (le-leb update_pending (update_pending + b) (omega arith)) (lt-ltb (update_pending + b) (update_pending + n) (omega arith))))
    ∙ ap bytes (let e : update_pending + b - update_pending ≡ b = omega arith in e)

-- places of different sectors, of one request or of two, don't meet
place_apart : (m : Machine) → Sound m → (e o : Pending) → IsInBookOrKept m e → IsInBookOrKept m o → (i k b : ℕ) → i < 8 * length e.request.asked.frames.items → k < 8 * length o.request.asked.frames.items → b < 512
    → (e.request.id.0 ≡ o.request.id.0 → i ≡ k → ⊥)
    → nth_frame e.request.asked.frames.items (i / 8) ≡ nth_frame o.request.asked.frames.items (k / 8) → 512 * (i % 8) ≤ 512 * (k % 8) + b → 512 * (k % 8) + b < 512 * (i % 8) + 512 → ⊥
place_apart m s e o le lo i k b li lk lb differ frame low high =
    let ie : i / 8 < length e.request.asked.frames.items = omega arith in
    let ko : k / 8 < length o.request.asked.frames.items = omega arith in
    let id : e.request.id.0 ≡ o.request.id.0 = some_id (sym (s.lent e le (i / 8) ie) ∙ ap m.lent frame ∙ s.lent o lo (k / 8) ko) in
    let request : e.request ≡ o.request = lives_one m s e o le lo id in
    let frames : e.request.asked.frames.items ≡ o.request.asked.frames.items = ap (λ (j : Accepted). j.asked.frames.items) request in
    let frame' : nth_frame e.request.asked.frames.items (i / 8) ≡ nth_frame e.request.asked.frames.items (k / 8) = frame ∙ ap (λ (xs : List Frame). nth_frame xs (k / 8)) (sym frames) in
    let ke : k / 8 < length e.request.asked.frames.items = subst (λ (xs : List Frame). k / 8 < length xs) (sym frames) ko in
    ⊎_elim
    (λ (same : i / 8 ≡ k / 8). differ id (omega (arith, same, low, high, lb)))
    (λ (x : (i / 8 < k / 8) ⊎ (k / 8 < i / 8)). ⊎_elim
    (λ (lt : i / 8 < k / 8). s.distinct e le (k / 8) (i / 8) lt ke frame')
    (λ (gt : k / 8 < i / 8). s.distinct e le (i / 8) (k / 8) gt ie (sym frame')) x)
    (cases_order (i / 8) (k / 8))
  where
    some_id : {a b : RequestId} → Some a ≡ Some b → a.0 ≡ b.0
    some_id {a} {b} p = let e : a ≡ b = cc in ap (λ (i : RequestId). i.0) e

-- a touch leaves the places of other sectors alone
pub memory_touch : (m : Machine) → Sound m → (e o : Pending) → IsIssuedOrKept m e → IsInBookOrKept m o → (i : ℕ) (block : Block) (k b : ℕ) → i < e.request.asked.count → k < 8 * length o.request.asked.frames.items → b < 512
    → (is_reader e.request.asked.op ≡ true → e.request.id.0 ≡ o.request.id.0 → i ≡ k → ⊥)
    → block_of (memory_after_touch e.request i block m.memory) o.request.asked.frames.items k b ≡ block_of m.memory o.request.asked.frames.items k b
memory_touch m s e o r lo i block k b li lk lb differ = by_op (is_reader e.request.asked.op) refl
  where
    by_op : (t : Bool) → is_reader e.request.asked.op ≡ t → block_of (memory_after_touch e.request i block m.memory) o.request.asked.frames.items k b ≡ block_of m.memory o.request.asked.frames.items k b
    by_op false t = ap (λ (x : Memory). block_of x o.request.asked.frames.items k b)
        (cond-false (is_reader e.request.asked.op) (put_bytes (nth_frame e.request.asked.frames.items (i / 8)) (512 * (i % 8)) 512 block m.memory) m.memory t)
    by_op true t =
        let room = s.room e (runs_lives m e r) t in
        let li' : i < 8 * length e.request.asked.frames.items = omega (arith, room, li) in
        ap (λ (x : Memory). block_of x o.request.asked.frames.items k b)
        (cond-true (is_reader e.request.asked.op) (put_bytes (nth_frame e.request.asked.frames.items (i / 8)) (512 * (i % 8)) 512 block m.memory) m.memory t)
        ∙ put_other (nth_frame e.request.asked.frames.items (i / 8)) (nth_frame o.request.asked.frames.items (k / 8)) (512 * (i % 8)) (512 * (k % 8) + b) 512 block m.memory
        (λ same low high. place_apart m s e o (runs_lives m e r) lo i k b li' lk lb (differ t) same low high)

memory_own : (m : Machine) (e : Pending) (i : ℕ) (block : Block) (b : ℕ) → is_reader e.request.asked.op ≡ true → b < 512
    → block_of (memory_after_touch e.request i block m.memory) e.request.asked.frames.items i b ≡ block b
memory_own m e i block b t lb =
    ap (λ (x : Memory). block_of x e.request.asked.frames.items i b)
    (cond-true (is_reader e.request.asked.op) (put_bytes (nth_frame e.request.asked.frames.items (i / 8)) (512 * (i % 8)) 512 block m.memory) m.memory t)
    ∙ put_same (nth_frame e.request.asked.frames.items (i / 8)) (512 * (i % 8)) 512 b block m.memory lb

-- a frame that a client may use is lent to none
pub open_unlent : (m : Machine) (client : ClientId) (frame : Frame) (offset count : ℕ) → MayAccessFrame m.owner m.lent client frame offset count → m.lent frame ≡ None
open_unlent m client frame offset count free = none_from (m.lent frame) (free fault.FrameLent)
  where
    none_from : (o : Option RequestId) → (IsSome o → ⊥) → o ≡ None
    none_from None h = refl
    none_from (Some id) h = absurd (h refl)

-- a store leaves lent frames alone
pub memory_store : (m : Machine) → Sound m → (o : Pending) → IsInBookOrKept m o → (client : ClientId) (frame : Frame) (offset : ℕ) (bytes : List ℕ) → MayAccessFrame m.owner m.lent client frame offset (length bytes) → (k b : ℕ) → k < 8 * length o.request.asked.frames.items
    → block_of (put_bytes frame offset (length bytes) (slice_index bytes) m.memory) o.request.asked.frames.items k b ≡ block_of m.memory o.request.asked.frames.items k b
memory_store m s o lo client frame offset bytes free k b lk =
    put_other frame (nth_frame o.request.asked.frames.items (k / 8)) offset (512 * (k % 8) + b) (length bytes) (slice_index bytes) m.memory
    (λ same _ _. none_some (sym (open_unlent m client frame offset (length bytes) free) ∙ ap m.lent same ∙ s.lent o lo (k / 8) (omega arith)))
  where
    none_some : {a : RequestId} → None ≡ Some a → ⊥
    none_some p = cc

-- Each step keeps the reads good.

-- where a request with a touched sector comes from, in a step that touches nothing
abbrev IsTraced : Machine → Machine → Type 0
IsTraced m n = (x : Pending) → Contains n.book x → (i : ℕ) → x.touched i ≡ true
    → (o : Pending) × Contains m.book o × (x.request ≡ o.request) × (o.touched i ≡ true) × (o.issued ≡ true → x.issued ≡ true)

abbrev IsSameAt : Machine → Machine → Type 0
IsSameAt m n = (o : Pending) → Contains m.book o → (i b : ℕ) → i < 8 * length o.request.asked.frames.items → b < 512 → block_of n.memory o.request.asked.frames.items i b ≡ block_of m.memory o.request.asked.frames.items i b

quiet_good : (start : Machine) (h : List Step) (m n : Machine) (step : Step) → Sound m → IsTraced m n → IsSameAt m n
    → ((id : RequestId) (k : ℕ) → touches_sector id k step ≡ false) → ((w : Accepted) (k : ℕ) → IsTouch step w k → ⊥)
    → AllGood start h m → AllGood start (step ∷ h) n
quiet_good start h m n step s trace memory own nobody good x hx reads i lt touched =
    let o = trace x hx i touched in
    let reads' : is_reader o.0.request.asked.op ≡ true = subst (λ (j : Accepted). is_reader j.asked.op ≡ true) o.2 reads in
    let lt' : i < o.0.request.asked.count = subst (λ (j : Accepted). i < j.asked.count) o.2 lt in
    let room = s.room o.0 (inl o.1) reads' in
    let g = good o.0 o.1 reads' i lt' o.3 in (
      o.4 g.0,
      subst (λ (j : Accepted). IsGood start (step ∷ h) n j i) (sym o.2)
          (good_more start h m n step o.0.request i (λ b lb. memory o.0 o.1 i b (omega (arith, room, lt')) lb) (own _ _) (λ w _ _ _ t. nobody w _ t) g.1),
    )

-- what is touched after the change was touched before, in a request that stays issued
abbrev KeepsTouched : (Pending → Pending) → Type 0
KeepsTouched f = (e : Pending) (i : ℕ) → (f e).touched i ≡ true → (e.touched i ≡ true) × (e.issued ≡ true → (f e).issued ≡ true)

traced_at : (m n : Machine) (id : RequestId) (f : Pending → Pending) → n.book ≡ map (update_pending id f) m.book → KeepsTouched f → KeepsRequest f → IsTraced m n
traced_at m n id f b kt kj x hx i touched =
    let r = map_in (update_pending id f) m.book x (subst (λ (es : List Pending). Contains es x) b hx) in
    ⊎_elim
    (λ p. let e : x ≡ f r.0 = r.2 ∙ p.1 in
    let q = kt r.0 i (subst (λ (y : Pending). y.touched i ≡ true) e touched) in
    (r.0, r.1, ap (λ (y : Pending). y.request) e ∙ kj r.0, q.0, λ h. subst (λ (y : Pending). y.issued ≡ true) (sym e) (q.1 h)))
    (λ p. let e : x ≡ r.0 = r.2 ∙ p.1 in
    (r.0, r.1, ap (λ (y : Pending). y.request) e, subst (λ (y : Pending). y.touched i ≡ true) e touched, λ h. subst (λ (y : Pending). y.issued ≡ true) (sym e) h))
    (at_cases id f r.0)

traced_same : (m n : Machine) → n.book ≡ m.book → IsTraced m n
traced_same m n b x hx i touched = (x, subst (λ (es : List Pending). Contains es x) b hx, refl, touched, λ h. h)

touch_good : (start : Machine) (h : List Step) (m : Machine) (e : Pending) (i : ℕ) (block : Block) → StepIsFaithful m (Touch e i block) → Sound m → AllSeen m h → Holds start h m → IsIssuedOrKept m e → i < e.request.asked.count
    → AllGood start h m → AllGood start (Touch e i block ∷ h) (after_step m (Touch e i block))
touch_good start h m e i block told s seen holds r li good x hx reads k lt touched =
    let q = map_in (update_pending e.request.id (touch i)) m.book x hx in
    ⊎_elim (λ p. same q.0 q.1 p.0 (q.2 ∙ p.1)) (λ p. other q.0 q.1 p.0 (q.2 ∙ p.1)) (at_cases e.request.id (touch i) q.0)
  where
    n : Machine
    n = after_step m (Touch e i block)

    clash : (op : Op) → is_reader op ≡ true → changes_sectors op ≡ true → ⊥
    clash Read a b = false≢true b
    clash Write a b = false≢true a
    clash Trim a b = false≢true a
    clash Flush a b = false≢true a

    reads_only : (op : Op) → is_reader op ≡ true → op ≡ Read
    reads_only Read a = refl
    reads_only Write a = absurd (false≢true a)
    reads_only Trim a = absurd (false≢true a)
    reads_only Flush a = absurd (false≢true a)

    -- the request is the one that is touched
    same : (o : Pending) → Contains m.book o → o.request.id.0 ≡ e.request.id.0 → x ≡ touch i o → (x.issued ≡ true) × IsGood start (Touch e i block ∷ h) (after_step m (Touch e i block)) x.request k
    same o ho id eq = (subst (λ (y : Pending). y.issued ≡ true) (sym eq) issued, subst (λ (j : Accepted). IsGood start (Touch e i block ∷ h) (after_step m (Touch e i block)) j k) (sym jx) (⊎_elim now before (cases_eq i k)))
      where
        jx : x.request ≡ o.request
        jx = ap (λ (y : Pending). y.request) eq

        je : o.request ≡ e.request
        je = lives_one m s o e (inl ho) (runs_lives m e r) id

        reads_o : is_reader o.request.asked.op ≡ true
        reads_o = subst (λ (j : Accepted). is_reader j.asked.op ≡ true) jx reads

        lt_o : k < o.request.asked.count
        lt_o = subst (λ (j : Accepted). k < j.asked.count) jx lt

        issued : o.issued ≡ true
        issued = ⊎_elim
            (λ (a : Contains m.book e × (e.issued ≡ true)). subst (λ (y : Pending). y.issued ≡ true) (s.one e o a.0 ho (sym id)) a.1)
            (λ (a : Contains m.kept e). absurd (s.apart o e ho a id)) r

        now : i ≡ k → IsGood start (Touch e i block ∷ h) (after_step m (Touch e i block)) o.request k
        now p = subst (λ (j : Accepted). IsGood start (Touch e i block ∷ h) (after_step m (Touch e i block)) j k) (sym je)
            (subst (λ (y : ℕ). IsGood start (Touch e i block ∷ h) (after_step m (Touch e i block)) e.request y) p
            (good_now start h m (after_step m (Touch e i block)) e i block s seen holds r li (subst (λ (j : Accepted). is_reader j.asked.op ≡ true) je reads_o)
            (λ b lb. memory_own m e i block b (subst (λ (j : Accepted). is_reader j.asked.op ≡ true) je reads_o) lb
            ∙ told (reads_only e.request.asked.op (subst (λ (j : Accepted). is_reader j.asked.op ≡ true) je reads_o)) b lb)))

        before : (i ≡ k → ⊥) → IsGood start (Touch e i block ∷ h) (after_step m (Touch e i block)) o.request k
        before ne =
            let was : o.touched k ≡ true = ⊎_elim
            (λ (a : (k == i) ≡ true). absurd (ne (sym (eqb-true k i a)))) (λ (a : o.touched k ≡ true). a)
            (or_cases (k == i) (o.touched k) (subst (λ (y : Pending). y.touched k ≡ true) eq touched)) in
            let room = s.room o (inl ho) reads_o in
            let first : e.request.asked.first.0 ≡ o.request.asked.first.0 = ap (λ (j : Accepted). j.asked.first.0) (sym je) in
            good_more start h m (after_step m (Touch e i block)) (Touch e i block) o.request k
            (λ b lb. memory_touch m s e o r (inl ho) i block k b li (omega (arith, room, lt_o)) lb (λ _ _ p. ne p))
            (and_right _ _ (ne_eqb (e.request.asked.first.0 + i) (o.request.asked.first.0 + k) (λ p. ne (omega (arith, p, first)))))
            (λ w writes _ _ t. clash o.request.asked.op reads_o (subst (λ (j : Accepted). changes_sectors j.asked.op ≡ true) (sym (je ∙ t.0)) writes))
            (good o ho reads_o k lt_o was).1

    -- the request is another
    other : (o : Pending) → Contains m.book o → (o.request.id.0 ≡ e.request.id.0 → ⊥) → x ≡ o → (x.issued ≡ true) × IsGood start (Touch e i block ∷ h) (after_step m (Touch e i block)) x.request k
    other o ho ne eq =
        let reads_o : is_reader o.request.asked.op ≡ true = subst (λ (y : Pending). is_reader y.request.asked.op ≡ true) eq reads in
        let lt_o : k < o.request.asked.count = subst (λ (y : Pending). k < y.request.asked.count) eq lt in
        let g = good o ho reads_o k lt_o (subst (λ (y : Pending). y.touched k ≡ true) eq touched) in
        let room = s.room o (inl ho) reads_o in
        subst (λ (y : Pending). (y.issued ≡ true) × IsGood start (Touch e i block ∷ h) (after_step m (Touch e i block)) y.request k) (sym eq) (
          g.0,
          good_more start h m (after_step m (Touch e i block)) (Touch e i block) o.request k
              (λ b lb. memory_touch m s e o r (inl ho) i block k b li (omega (arith, room, lt_o)) lb (λ _ p _. ne (sym p)))
              (and_left _ _ (ne_eqb e.request.id.0 o.request.id.0 (λ p. ne (sym p))))
              (λ w writes port less t.
              let same_port : e.request.port ≡ o.request.port = ap (λ (j : Accepted). j.port) t.0 ∙ port in
              let writes_e : changes_sectors e.request.asked.op ≡ true = subst (λ (j : Accepted). changes_sectors j.asked.op ≡ true) (sym t.0) writes in
              let less_e : e.request.id.0 < o.request.id.0 = subst (λ (j : Accepted). j.id.0 < o.request.id.0) (sym t.0) less in
              let sector : e.request.asked.first.0 + i ≡ o.request.asked.first.0 + k = ap (λ (j : Accepted). sector_of j i) t.0 ∙ t.1 in
              s.order o e (inl (ho, g.0)) (runs_lives m e r) less_e
              (conflict_at e.request o.request (o.request.asked.first.0 + k) same_port (or_left _ _ writes_e) (omega (arith, sector)) (omega (arith, sector, li)) (omega arith) (omega (arith, lt_o))))
              g.1,
        )

pub good_step : (start : Machine) (h : List Step) (m : Machine) (step : Step) → IsEnabled m step → StepIsFaithful m step → Sound m → AllSeen m h → Holds start h m → AllGood start h m → AllGood start (step ∷ h) (after_step m step)
good_step start h m (Accept request) may told s seen holds g = quiet_good start h m (after_step m (Accept request)) (Accept request) s
    (λ x hx i t. ⊎_elim (λ p. (x, p, refl, t, λ q. q)) (λ p. absurd (false≢true (subst (λ (y : Pending). y.touched i ≡ true) p t))) (append_in m.book (newly_accepted request) x hx))
    (λ o ho i b li lb. refl) (λ id k. refl) (λ w k t. t) g
good_step start h m (Issue mode e) may told s seen holds g = quiet_good start h m (after_step m (Issue mode e)) (Issue mode e) s
    (traced_at m (after_step m (Issue mode e)) e.request.id newly_issued refl (λ x i t. absurd (false≢true t)) (λ x. refl)) (λ o ho i b li lb. refl) (λ id k. refl) (λ w k t. t) g
good_step start h m (Touch e i block) may told s seen holds g = touch_good start h m e i block told s seen holds may.0 may.1 g
good_step start h m (End e) may told s seen holds g = quiet_good start h m (after_step m (End e)) (End e) s
    (traced_at m (after_step m (End e)) e.request.id mark_ended refl (λ x i t. (t, λ q. q)) (λ x. refl)) (λ o ho i b li lb. refl) (λ id k. refl) (λ w k t. t) g
good_step start h m (Age ready) may told s seen holds g = quiet_good start h m (after_step m (Age ready)) (Age ready) s
    (λ x hx i t. let r = map_in (aged_pending ready) m.book x hx in (
      r.0,
      r.1,
      ap (λ (y : Pending). y.request) r.2 ∙ older_keeps ready r.0,
      subst (λ (f : ℕ → Bool). f i ≡ true) (ap (λ (y : Pending). y.touched) r.2 ∙ older_touched ready r.0) t,
      λ q. ap (λ (y : Pending). y.issued) r.2 ∙ older_issued ready r.0 ∙ q,
    ))
    (λ o ho i b li lb. refl) (λ id k. refl) (λ w k t. t) g
good_step start h m (WaitAgain e) may told s seen holds g = quiet_good start h m (after_step m (WaitAgain e)) (WaitAgain e) s
    (traced_at m (after_step m (WaitAgain e)) e.request.id requeued refl (λ x i t. absurd (false≢true t)) (λ x. refl)) (λ o ho i b li lb. refl) (λ id k. refl) (λ w k t. t) g
good_step start h m (Answer e outcome) may told s seen holds g = quiet_good start h m (after_step m (Answer e outcome)) (Answer e outcome) s
    (λ x hx i t. (x, (without_in e.request.id m.book x hx).0, refl, t, λ q. q))
    (λ o ho i b li lb. refl) (λ id k. refl) (λ w k t. t) g
good_step start h m (Revoke client number) may told s seen holds g = quiet_good start h m (after_step m (Revoke client number)) (Revoke client number) s
    (traced_same m (after_step m (Revoke client number)) refl) (λ o ho i b li lb. refl) (λ id k. refl) (λ w k t. t) g
good_step start h m Release may told s seen holds g = quiet_good start h m (after_step m Release) Release s
    (traced_same m (after_step m Release) refl) (λ o ho i b li lb. refl) (λ id k. refl) (λ w k t. t) g
good_step start h m (Unplug port) may told s seen holds g = quiet_good start h m (after_step m (Unplug port)) (Unplug port) s
    (traced_same m (after_step m (Unplug port)) refl) (λ o ho i b li lb. refl) (λ id k. refl) (λ w k t. t) g
good_step start h m (PlugDisk port id size disk) may told s seen holds g = quiet_good start h m (after_step m (PlugDisk port id size disk)) (PlugDisk port id size disk) s
    (traced_same m (after_step m (PlugDisk port id size disk)) refl) (λ o ho i b li lb. refl) (λ id k. refl) (λ w k t. t) g
good_step start h m (Store client frame offset bytes) may told s seen holds g = quiet_good start h m (after_step m (Store client frame offset bytes)) (Store client frame offset bytes) s
    (traced_same m (after_step m (Store client frame offset bytes)) refl) (λ o ho i b li lb. memory_store m s o (inl ho) client frame offset bytes may i b li) (λ id k. refl) (λ w k t. t) g
good_step start h m (Load client frame offset bytes) may told s seen holds g = quiet_good start h m (after_step m (Load client frame offset bytes)) (Load client frame offset bytes) s
    (traced_same m (after_step m (Load client frame offset bytes)) refl) (λ o ho i b li lb. refl) (λ id k. refl) (λ w k t. t) g
