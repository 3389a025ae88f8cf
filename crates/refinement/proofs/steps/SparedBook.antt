-- What the device's own steps leave of the machine's book, of its loans, and of the frames that they don't move.
use Rattle.std.proofs.Common.{ℕ, ◌≡◌, ◌*◌, ◌/◌, ◌%◌, Bool, true, false, List, [], ◌∷◌, map, Some, refl, sym, ◌∙◌, ap, subst, arith, inl, inr, ⊎_elim}
use Rattle.std.specs.List.{Contains}
use Rattle.std.proofs.lemmas.Bool.{cond-true, cond-false, or_right}
use Rattle.ata_types.specs.declared.Port.{Port}
use Rattle.ata_types.specs.declared.request.Frame.{Frame}
use Rattle.ata_types.specs.declared.request.RequestId.{RequestId}
use Rattle.adapter.specs.Device.{Device}
use Rattle.block_machine.specs.State.{Accepted, Block, Memory, Pending, Machine, nth_frame, unanswered, is_reader}
use Rattle.block_machine.specs.Steps.{Step, Accept, Issue, Touch, End, Age, WaitAgain, Answer, Revoke, Release, Unplug, PlugDisk, Store, Load, IsEnabled, IsIssuedOrKept, NoneKept, after_step, update_pending, touch, mark_ended, put_bytes, memory_after_touch}
use Rattle.block_machine.specs.Expected.{after}
use Rattle.block_machine.specs.Events.{IsByDevice, AllByDevice, AllEnabled}
use Rattle.block_machine.specs.Histories.{IsReachable}
use Rattle.block_machine.proofs.HistoryLemmas.{reached_more}
use Rattle.block_machine.proofs.Members.{contains_none, contains_here, contains_there, contains_cases, at_cases}
use Rattle.block_machine.proofs.Reading.{put_other}
use Rattle.block_machine.proofs.Sound.{Sound}
use Rattle.block_machine.proofs.Standing.{standing}
use Rattle.block_machine.proofs.Trace.{runs_lives}
use Rattle.refinement.specs.Simulation.{SimulatesSteps}
use Rattle.refinement.specs.Slots.{SlotStates}
use Rattle.refinement.specs.SparedBook.{IsAsFarOrFurther, AllAsFarOrFurther, KeepsLoansAndPendingsOnlyAdvance}
use Rattle.refinement.proofs.steps.WaitingRequests.{tells_device}

-- ---- requests

further_refl : (e : Pending) → IsAsFarOrFurther e e
further_refl e = record { request = refl; issues = refl; age = refl; issued = refl; touched = λ i h. h; ended = λ h. h }

further_more : (a b c : Pending) → IsAsFarOrFurther a b → IsAsFarOrFurther b c → IsAsFarOrFurther a c
further_more a b c x y = record {
  request = y.request ∙ x.request;
  issues = y.issues ∙ x.issues;
  age = y.age ∙ x.age;
  issued = y.issued ∙ x.issued;
  touched = λ i h. y.touched i (x.touched i h);
  ended = λ h. y.ended (x.ended h);
}

all_refl : (es : List Pending) → AllAsFarOrFurther es es
all_refl [] = refl
all_refl (e ∷ es) = (further_refl e, all_refl es)

all_more : (xs ys zs : List Pending) → AllAsFarOrFurther xs ys → AllAsFarOrFurther ys zs → AllAsFarOrFurther xs zs
all_more [] ys zs a b = subst (λ (l : List Pending). AllAsFarOrFurther l zs) a b
all_more (x ∷ xs) [] zs a b = absurd a
all_more (x ∷ xs) (y ∷ ys) [] a b = absurd b
all_more (x ∷ xs) (y ∷ ys) (z ∷ zs) a b = (further_more x y z a.0 b.0, all_more xs ys zs a.1 b.1)

touch_further : (i : ℕ) (e : Pending) → IsAsFarOrFurther e (touch i e)
touch_further i e = record { request = refl; issues = refl; age = refl; issued = refl; touched = λ k h. or_right _ _ h; ended = λ h. h }

ended_further : (e : Pending) → IsAsFarOrFurther e (mark_ended e)
ended_further e = record { request = refl; issues = refl; age = refl; issued = refl; touched = λ k h. h; ended = λ h. refl }

all_at : (f : Pending → Pending) → ((e : Pending) → IsAsFarOrFurther e (f e)) → (id : RequestId) (es : List Pending) → AllAsFarOrFurther es (map (update_pending id f) es)
all_at f on id [] = refl
all_at f on id (e ∷ es) = (one, all_at f on id es)
  where
    one : IsAsFarOrFurther e (update_pending id f e)
    one = ⊎_elim
        (λ p. subst (λ (x : Pending). IsAsFarOrFurther e x) (sym p.1) (on e))
        (λ p. subst (λ (x : Pending). IsAsFarOrFurther e x) (sym p.1) (further_refl e))
        (at_cases id f e)

-- ---- steps

pub spares_refl : (m : Machine) → KeepsLoansAndPendingsOnlyAdvance m m
spares_refl m = record { rows = refl; owner = refl; lent = refl; next_id = refl; book = all_refl m.book; kept = all_refl m.kept }

pub spares_more : (a b c : Machine) → KeepsLoansAndPendingsOnlyAdvance a b → KeepsLoansAndPendingsOnlyAdvance b c → KeepsLoansAndPendingsOnlyAdvance a c
spares_more a b c x y = record {
  rows = y.rows ∙ x.rows;
  owner = y.owner ∙ x.owner;
  lent = y.lent ∙ x.lent;
  next_id = y.next_id ∙ x.next_id;
  book = all_more a.book b.book c.book x.book y.book;
  kept = all_more a.kept b.kept c.kept x.kept y.kept;
}

step_spares : (m : Machine) (step : Step) → IsByDevice step → KeepsLoansAndPendingsOnlyAdvance m (after_step m step)
step_spares m (Touch e i block) is = record {
  rows = refl;
  owner = refl;
  lent = refl;
  next_id = refl;
  book = all_at (touch i) (touch_further i) e.request.id m.book;
  kept = all_at (touch i) (touch_further i) e.request.id m.kept;
}
step_spares m (End e) is = record {
  rows = refl;
  owner = refl;
  lent = refl;
  next_id = refl;
  book = all_at mark_ended ended_further e.request.id m.book;
  kept = all_at mark_ended ended_further e.request.id m.kept;
}
step_spares m (Unplug port) is = record { rows = refl; owner = refl; lent = refl; next_id = refl; book = all_refl m.book; kept = all_refl m.kept }
step_spares m (PlugDisk port id size disk) is = record { rows = refl; owner = refl; lent = refl; next_id = refl; book = all_refl m.book; kept = all_refl m.kept }
step_spares m (Accept r) is = absurd is
step_spares m (Issue mode e) is = absurd is
step_spares m (Age ready) is = absurd is
step_spares m (WaitAgain e) is = absurd is
step_spares m (Answer e outcome) is = absurd is
step_spares m (Revoke client number) is = absurd is
step_spares m Release is = absurd is
step_spares m (Store client frame offset bytes) is = absurd is
step_spares m (Load client frame offset bytes) is = absurd is

pub steps_spare : (m : Machine) (steps : List Step) → AllByDevice steps → KeepsLoansAndPendingsOnlyAdvance m (after m steps)
steps_spare m [] is = spares_refl m
steps_spare m (step ∷ before) is =
    spares_more m (after m before) (after m (step ∷ before)) (steps_spare m before is.0) (step_spares (after m before) step is.1)

-- ---- what a driver read of the book

pub same_due : (old later : List Pending) → AllAsFarOrFurther old later → map unanswered later ≡ map unanswered old
same_due [] later a = ap (map unanswered) a
same_due (x ∷ xs) [] a = absurd a
same_due (x ∷ xs) (y ∷ ys) a =
    let request = a.0.request in
    let issued = a.0.issued in
    let head : unanswered y ≡ unanswered x = λ i. unanswered (record y { request = request i; issued = issued i }) in
    let rest : map unanswered ys ≡ map unanswered xs = same_due xs ys a.1 in
    λ i. head i ∷ rest i

pub entry_is_found_in_later_book : (old later : List Pending) (e : Pending) → AllAsFarOrFurther old later → Contains old e → (x : Pending) × Contains later x × IsAsFarOrFurther e x
entry_is_found_in_later_book [] later e a i = absurd (contains_none e i)
entry_is_found_in_later_book (x ∷ xs) [] e a i = absurd a
entry_is_found_in_later_book (x ∷ xs) (y ∷ ys) e a i = ⊎_elim
    (λ (w : e ≡ x). (y, contains_here y ys y refl, subst (λ (z : Pending). IsAsFarOrFurther z y) (sym w) a.0))
    (λ (w : Contains xs e). let q = entry_is_found_in_later_book xs ys e a.1 w in (q.0, contains_there y ys q.0 q.1, q.2))
    (contains_cases x xs e i)

pub entry_is_found_in_earlier_book : (old later : List Pending) (e : Pending) → AllAsFarOrFurther old later → Contains later e → (x : Pending) × Contains old x × IsAsFarOrFurther x e
entry_is_found_in_earlier_book [] later e a i = absurd (contains_none e (subst (λ (l : List Pending). Contains l e) a i))
entry_is_found_in_earlier_book (x ∷ xs) [] e a i = absurd a
entry_is_found_in_earlier_book (x ∷ xs) (y ∷ ys) e a i = ⊎_elim
    (λ (w : e ≡ y). (x, contains_here x xs x refl, subst (λ (z : Pending). IsAsFarOrFurther x z) (sym w) a.0))
    (λ (w : Contains ys e). let q = entry_is_found_in_earlier_book xs ys e a.1 w in (q.0, contains_there x xs q.0 q.1, q.2))
    (contains_cases y ys e i)

-- ---- frames

-- no request that may move has the frame
abbrev IsUnmoved : Machine → Frame → Type 0
IsUnmoved m frame = (e : Pending) → IsIssuedOrKept m e → m.lent frame ≡ Some e.request.id → ⊥

unmoved_on : (m n : Machine) (frame : Frame) → KeepsLoansAndPendingsOnlyAdvance m n → IsUnmoved m frame → IsUnmoved n frame
unmoved_on m n frame s none e may lent = ⊎_elim
    (λ (z : Contains n.book e × (e.issued ≡ true)).
    let q = entry_is_found_in_earlier_book m.book n.book e s.book z.0 in
    none q.0 (inl (q.1, sym q.2.issued ∙ z.1)) (was q.0 q.2))
    (λ (z : Contains n.kept e). let q = entry_is_found_in_earlier_book m.kept n.kept e s.kept z in none q.0 (inr q.1) (was q.0 q.2))
    may
  where
    was : (o : Pending) → IsAsFarOrFurther o e → m.lent frame ≡ Some o.request.id
    was o x = ap (λ f. f frame) (sym s.lent) ∙ lent ∙ ap (λ r. Some r.id) x.request

touch_leaves : (m : Machine) → Sound m → (e : Pending) (i : ℕ) (block : Block) → IsEnabled m (Touch e i block) → (frame : Frame) → IsUnmoved m frame → (b : ℕ) →
    (after_step m (Touch e i block)).memory frame b ≡ m.memory frame b
touch_leaves m s e i block may frame none b = by (is_reader e.request.asked.op) refl
  where
    by : (t : Bool) → is_reader e.request.asked.op ≡ t → memory_after_touch e.request i block m.memory frame b ≡ m.memory frame b
    by false t = ap (λ (x : Memory). x frame b) (cond-false (is_reader e.request.asked.op) (put_bytes (nth_frame e.request.asked.frames.items (i / 8)) (512 * (i % 8)) 512 block m.memory) m.memory t)
    by true t =
        let l = runs_lives m e may.0 in
        let room = s.room e l t in
        ap (λ (x : Memory). x frame b) (cond-true (is_reader e.request.asked.op) (put_bytes (nth_frame e.request.asked.frames.items (i / 8)) (512 * (i % 8)) 512 block m.memory) m.memory t)
        ∙ put_other (nth_frame e.request.asked.frames.items (i / 8)) frame (512 * (i % 8)) b 512 block m.memory
        (λ same low high. none e may.0 (ap m.lent (sym same) ∙ s.lent e l (i / 8) (omega (arith, room, may.1))))

step_frames : (m : Machine) → Sound m → (step : Step) → IsByDevice step → IsEnabled m step → (frame : Frame) → IsUnmoved m frame → (b : ℕ) → (after_step m step).memory frame b ≡ m.memory frame b
step_frames m s (Touch e i block) is may frame none b = touch_leaves m s e i block may frame none b
step_frames m s (End e) is may frame none b = refl
step_frames m s (Unplug port) is may frame none b = refl
step_frames m s (PlugDisk port id size disk) is may frame none b = refl
step_frames m s (Accept r) is may frame none b = absurd is
step_frames m s (Issue mode e) is may frame none b = absurd is
step_frames m s (Age ready) is may frame none b = absurd is
step_frames m s (WaitAgain e) is may frame none b = absurd is
step_frames m s (Answer e outcome) is may frame none b = absurd is
step_frames m s (Revoke client number) is may frame none b = absurd is
step_frames m s Release is may frame none b = absurd is
step_frames m s (Store client f offset bytes) is may frame none b = absurd is
step_frames m s (Load client f offset bytes) is may frame none b = absurd is

pub frames_stay : (m : Machine) (steps : List Step) (frame : Frame) → IsReachable m → AllByDevice steps → AllEnabled m steps → IsUnmoved m frame → (b : ℕ) → (after m steps).memory frame b ≡ m.memory frame b
frames_stay m [] frame r is may none b = refl
frames_stay m (step ∷ before) frame r is may none b =
    step_frames (after m before) (standing (after m before) (reached_more m before r may.0)).sound step is.1 may.1 frame
    (unmoved_on m (after m before) frame (steps_spare m before is.0) none) b
    ∙ frames_stay m before frame r is.0 may.0 none b

-- ---- a machine that follows

pub follows_spare : (uses : SlotStates) (m : Machine) (old new : Device) → (f : SimulatesSteps uses m old new) → KeepsLoansAndPendingsOnlyAdvance m (after m f.steps)
follows_spare uses m old new f = steps_spare m f.steps (tells_device m f.new_entries f.steps f.tape_tells_steps)

-- where no request of the port is kept, none is later
pub none_kept_on : (m n : Machine) (port : Port) → KeepsLoansAndPendingsOnlyAdvance m n → NoneKept m port → NoneKept n port
none_kept_on m n port s none e i is =
    let q = entry_is_found_in_earlier_book m.kept n.kept e s.kept i in
    none q.0 q.1 (ap (λ (r : Accepted). r.port) (sym q.2.request) ∙ is)

pub none_kept_after : (m : Machine) (steps : List Step) (port : Port) → AllByDevice steps → NoneKept m port → NoneKept (after m steps) port
none_kept_after m steps port device none = none_kept_on m (after m steps) port (steps_spare m steps device) none
