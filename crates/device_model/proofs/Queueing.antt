-- A queue from which the steps that are due are taken, one after another.
use Rattle.std.proofs.Common.{ℕ, suc, Bool, ◌≡◌, ◌<◌, ◌≤◌, ◌+◌, ◌-◌, List, [], ◌∷◌, ◌++◌, Option, length, slice_index_or, refl, sym, ◌∙◌, ap, subst, arith, append_assoc, append-nil, length-append}
use Rattle.std.specs.Global.{Vec}
use Rattle.std.specs.List.{remove}
use Rattle.std.proofs.lemmas.Bool.{le-leb, le-ltb, lt-ltb, lt-leb}
use Rattle.std.proofs.lemmas.List.{get_or-append_right}
use Rattle.std.proofs.lemmas.List.Edits.{remove-append_right}
use Rattle.adapter.specs.Steps.{Steps}
use Rattle.adapter.specs.declared.access.DeviceStep.{DeviceStep}
use Rattle.adapter.proofs.Runs.{Steps-refl, Steps-trans}
use Rattle.sector_store.specs.declared.store.Failures.{Failures}
use Rattle.device_model.specs.StepEffects.{AnswersStep}
use Rattle.device_model.specs.ModelState.{device_at}
use Rattle.device_model.specs.Queue.{BeginsAccess, steps_due_by_access, later_steps, AnswersEachStep}
use Rattle.device_model.specs.declared.model.Model.{Model}
use Rattle.device_model.specs.declared.model.QueuedStep.{QueuedStep}
use Rattle.device_model.proofs.Doing.{answers_steps}

-- ---- steps, one more at the end

module _ {S : Type 0} (size : S → ℕ) (told : S → Option (ℕ → List ℕ)) (failures : S → Option Failures) where
  pub each_more : (done : List DeviceStep) (s : DeviceStep) (answer : Bool) (old mid new : Model S) → AnswersEachStep size told failures done old mid →
      AnswersStep size told failures s answer mid new → AnswersEachStep size told failures (done ++ s ∷ []) old new
  each_more [] s answer old mid new e one =
      let P : Model S → Type 0 = λ m. AnswersStep size told failures s answer m new in
      (answer, new, subst P e one, refl)
  each_more (x ∷ done) s answer old mid new d one = (d.0, d.1, d.2, each_more done s answer d.1 mid new d.3 one)

  pub each_steps : (done : List DeviceStep) (old new : Model S) → AnswersEachStep size told failures done old new → Steps (device_at size told old) (device_at size told new)
  each_steps [] old new e =
      let P : Model S → Type 0 = λ m. Steps (device_at size told old) (device_at size told m) in
      subst P (sym e) (Steps-refl (device_at size told old))
  each_steps (s ∷ done) old new d =
      Steps-trans (answers_steps size told failures s old d.1 d.0 d.2) (each_steps done d.1 new d.3)

  pub begins_steps : (old new : Model S) → BeginsAccess size told failures old new → Steps (device_at size told old) (device_at size told new)
  begins_steps old new b = each_steps (steps_due_by_access new.accesses.saturating_count old.queue.items) (record old { accesses = new.accesses; queue = new.queue }) new b.does_due_steps

-- these steps lead from the one model to the other, whatever is queued in both
abbrev pub DoneSo : {S : Type 0} → (S → ℕ) → (S → Option (ℕ → List ℕ)) → (S → Option Failures) → Model S → Model S → List DeviceStep → Type 0
DoneSo size told failures old new done =
    (q : Vec QueuedStep) → AnswersEachStep size told failures done (record old { queue = q }) (record new { queue = q })

-- ---- the queue

-- The queue was gone through up to this place: `rest` is still to be looked at, `kept` stands before it, and of what was done this holds.
pub record IsAt (access : ℕ) (queue now : List QueuedStep) (place left : ℕ) (DidStep : List DeviceStep → Type 0) : Type 0 where
  pub kept : List QueuedStep
  pub rest : List QueuedStep
  pub done : List DeviceStep
  pub is : now ≡ kept ++ rest
  pub place_is : length kept ≡ place
  pub left_is : length rest ≡ left
  pub keeps : later_steps access queue ≡ kept ++ later_steps access rest
  pub does : steps_due_by_access access queue ≡ done ++ steps_due_by_access access rest
  pub did : DidStep done

pub at_start : (access : ℕ) (queue : List QueuedStep) (DidStep : List DeviceStep → Type 0) → DidStep [] → IsAt access queue queue 0 (length queue) DidStep
at_start access queue DidStep none = record {
  kept = [];
  rest = queue;
  done = [];
  is = refl;
  place_is = refl;
  left_is = refl;
  keeps = refl;
  does = refl;
  did = none;
}

-- the one that is looked at, and those after it
next_of : (rest : List QueuedStep) (left : ℕ) → length rest ≡ suc left → (x : QueuedStep) × (after : List QueuedStep) × (rest ≡ x ∷ after) × (length after ≡ left)
next_of [] left e = absurd (omega (arith, e))
next_of (x ∷ after) left e = (x, after, refl, omega (arith, e))

-- the place is inside
pub at_inside : (access : ℕ) (queue now : List QueuedStep) (place left : ℕ) (DidStep : List DeviceStep → Type 0) → IsAt access queue now place left DidStep → 0 < left →
    place < length now
at_inside access queue now place left DidStep a some =
    let n = length-append a.kept a.rest in omega (arith, ap length a.is, n, a.left_is, a.place_is, some)

module _ (access : ℕ) (queue now : List QueuedStep) (place left : ℕ) (Was DidStep : List DeviceStep → Type 0)
    (a : IsAt access queue now place (suc left) Was) (d : QueuedStep) where
  -- this is the one that stands there

  there : (x : QueuedStep) (after : List QueuedStep) → a.rest ≡ x ∷ after → slice_index_or now place d ≡ x
  there x after e =
      ap (λ l. slice_index_or l place d) a.is
      ∙ (get_or-append_right a.kept a.rest (length a.kept) place d refl (omega (arith, a.place_is))
      ∙ (ap (λ k. slice_index_or a.rest k d) (omega (arith, a.place_is)) ∙ ap (λ l. slice_index_or l 0 d) e))

  -- it isn't due
  pub at_kept : access < (slice_index_or now place d).access → ((done : List DeviceStep) → Was done → DidStep done) → IsAt access queue now (place + 1) left DidStep
  at_kept late same =
      let n = next_of a.rest left a.left_is in
      let x : QueuedStep = n.0 in
      let after : List QueuedStep = n.1 in
      let e : slice_index_or now place d ≡ x = there x after n.2 in
      let here : access < x.access = let P : QueuedStep → Type 0 = λ q. access < q.access in subst P e late in
      let kept : later_steps access (x ∷ after) ≡ x ∷ later_steps access after = rw (lt-ltb access x.access here) refl in
      let passed : steps_due_by_access access (x ∷ after) ≡ steps_due_by_access access after = rw (lt-leb x.access access here) refl in
      record {
        kept = a.kept ++ x ∷ [];
        rest = after;
        done = a.done;
        is = a.is ∙ (ap (λ l. a.kept ++ l) n.2 ∙ sym (append_assoc a.kept (x ∷ []) after));
        place_is = let l = length-append a.kept (x ∷ []) in omega (arith, l, a.place_is);
        left_is = n.3;
        keeps = a.keeps ∙ (ap (λ l. a.kept ++ later_steps access l) n.2 ∙ (ap (λ l. a.kept ++ l) kept ∙ sym (append_assoc a.kept (x ∷ []) (later_steps access after))));
        does = a.does ∙ (ap (λ l. a.done ++ steps_due_by_access access l) n.2 ∙ ap (λ l. a.done ++ l) passed);
        did = same a.done a.did;
      }

  -- it is due, and leaves the queue
  pub at_done : (slice_index_or now place d).access ≤ access →
      ((done : List DeviceStep) → Was done → DidStep (done ++ (slice_index_or now place d).step ∷ [])) → IsAt access queue (remove now place) place left DidStep
  at_done early one =
      let n = next_of a.rest left a.left_is in
      let x : QueuedStep = n.0 in
      let after : List QueuedStep = n.1 in
      let e : slice_index_or now place d ≡ x = there x after n.2 in
      let here : x.access ≤ access = let P : QueuedStep → Type 0 = λ q. q.access ≤ access in subst P e early in
      let passed : later_steps access (x ∷ after) ≡ later_steps access after = rw (le-ltb access x.access here) refl in
      let taken : steps_due_by_access access (x ∷ after) ≡ x.step ∷ steps_due_by_access access after = rw (le-leb x.access access here) refl in
      let Q : QueuedStep → Type 0 = λ q. DidStep (a.done ++ q.step ∷ []) in
      let here_from : place ≤ place = omega arith in
      let none : place - place ≡ 0 = omega arith in
      record {
        kept = a.kept;
        rest = after;
        done = a.done ++ x.step ∷ [];
        is = ap (λ l. remove l place) a.is
            ∙ (remove-append_right a.kept a.rest place place a.place_is here_from
            ∙ (ap (λ k. a.kept ++ remove a.rest k) none ∙ ap (λ l. a.kept ++ remove l 0) n.2));
        place_is = a.place_is;
        left_is = n.3;
        keeps = a.keeps ∙ (ap (λ l. a.kept ++ later_steps access l) n.2 ∙ ap (λ l. a.kept ++ l) passed);
        does = a.does ∙ (ap (λ l. a.done ++ steps_due_by_access access l) n.2 ∙ (ap (λ l. a.done ++ l) taken ∙ sym (append_assoc a.done (x.step ∷ []) (steps_due_by_access access after))));
        did = subst Q e (one a.done a.did);
      }

-- all were looked at
module _ (access : ℕ) (queue now : List QueuedStep) (place : ℕ) (DidStep : List DeviceStep → Type 0) (a : IsAt access queue now place 0 DidStep) where
  none_left : (rest : List QueuedStep) → length rest ≡ 0 → rest ≡ []
  none_left [] e = refl
  none_left (x ∷ rest) e = absurd (omega (arith, e))

  pub at_end_left : now ≡ later_steps access queue
  at_end_left =
      let none : a.rest ≡ [] = none_left a.rest a.left_is in
      a.is ∙ (ap (λ l. a.kept ++ l) none ∙ sym (a.keeps ∙ ap (λ l. a.kept ++ later_steps access l) none))

  pub at_end_did : DidStep (steps_due_by_access access queue)
  at_end_did =
      let none : a.rest ≡ [] = none_left a.rest a.left_is in
      let all : steps_due_by_access access queue ≡ a.done = a.does ∙ (ap (λ l. a.done ++ steps_due_by_access access l) none ∙ append-nil a.done) in
      subst DidStep (sym all) a.did
