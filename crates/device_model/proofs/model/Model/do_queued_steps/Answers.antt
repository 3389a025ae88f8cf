use Rattle.std.proofs.Common.{ℕ, suc, ◌≡◌, ◌<◌, ◌≤◌, ◌+◌, ◌-◌, ◌∙◌, ◌++◌, List, [], ◌∷◌, length, slice_index_or, refl, sym, ap, subst, arith}
use Rattle.std.specs.Global.{Vec}
use Rattle.std.specs.List.{remove}
use Rattle.adapter.specs.declared.access.DeviceStep.{DeviceStep}
use Rattle.device_model.specs.StepEffects.{AnswersStep}
use Rattle.device_model.specs.Queue.{AnswersEachStep, steps_due_by_access, later_steps}
use Rattle.adapter.specs.declared.counting.AccessCounter.{AccessCounter}
use Rattle.device_model.specs.declared.model.QueuedStep.{QueuedStep}
use Rattle.device_model.proofs.Doing.{answers_queued, did_or_left_keeps}
use Rattle.device_model.proofs.Queueing.{DoneSo, IsAt, at_start, at_inside, at_kept, at_done, at_end_left, at_end_did, each_more}
use Rattle.device_model.proofs.model.Model.do_queued_steps.Goals as goal
use Rattle.device_model.proofs.model.Model.do_queued_steps.Goals.{then-queued-self, else-queued-self}

pub loop-queued-init : goal.loop-queued-init
loop-queued-init g c =
    let m = record c.args.self.now { accesses = c.add.new.self } in
    let items = c.args.self.now.queue.items in
    let ok = c.args.self.now.queue.ok.0 in
    let P : ℕ → Type 0 = λ n. IsAt c.add.new.self.saturating_count items items 0 n (DoneSo g.S.SectorStore.size g.S.SectorStore.told g.S.SectorStore.failures m m) in
    let all : length items ≡ c.len-queued-end.result - 0 = omega (arith, ok, c.len-queued-end.ensures) in
    record {
      same = refl;
      at = subst P all (at_start c.add.new.self.saturating_count items (DoneSo g.S.SectorStore.size g.S.SectorStore.told g.S.SectorStore.failures m m) (λ q. refl));
    }

-- there is one at the place while some are left to look at
pub index-requires : goal.index-requires
index-requires g c =
    let m = c.loop-queued.self in
    let inside = at_inside c.add.new.self.saturating_count c.args.self.now.queue.items m.queue.items c.loop-queued.place _ _ c.loop-queued.invariant.at (omega (arith, c.loop-queued-test.true)) in
    let ok = m.queue.ok.0 in
    omega (arith, inside, ok)

pub remove-requires : goal.remove-requires
remove-requires g c =
    let m = c.loop-queued.self in
    let inside = at_inside c.add.new.self.saturating_count c.args.self.now.queue.items m.queue.items c.loop-queued.place _ _ c.loop-queued.invariant.at (omega (arith, c.loop-queued-test.true)) in
    let ok = m.queue.ok.0 in
    omega (arith, inside, ok)

pub overflow_add-place : goal.overflow_add-place
overflow_add-place g c =
    let m = c.loop-queued.self in
    let inside = at_inside c.add.new.self.saturating_count c.args.self.now.queue.items m.queue.items c.loop-queued.place _ _ c.loop-queued.invariant.at (omega (arith, c.loop-queued-test.true)) in
    let ok = m.queue.ok in
    let small = m.queue.small in
    omega (arith, inside, ok.0, ok.1, small)

pub loop-queued-preserved : goal.loop-queued-preserved
loop-queued-preserved g c =
    let m = c.loop-queued.self in
    let access : ℕ = c.add.new.self.saturating_count in
    let first = record c.args.self.now { accesses = c.add.new.self } in
    let left : ℕ = c.len-queued-end.result - (c.loop-queued._queued + 1) in
    let next : c.len-queued-end.result - c.loop-queued._queued ≡ suc left = omega (arith, c.loop-queued-test.true) in
    let Was : List DeviceStep → Type 0 = DoneSo g.S.SectorStore.size g.S.SectorStore.told g.S.SectorStore.failures first m in
    let P : ℕ → Type 0 = λ n. IsAt access c.args.self.now.queue.items m.queue.items c.loop-queued.place n Was in
    let at = subst P next c.loop-queued.invariant.at in
    let x : QueuedStep = c.index.result.now in
    let same = ap (λ (a : AccessCounter). a.saturating_count) c.loop-queued.invariant.same in
    elim c.if-queued-self.branch [
      | then-queued-self w ↦
          let late : access < (slice_index_or m.queue.items c.loop-queued.place x).access =
          let Q : QueuedStep → Type 0 = λ q. access < q.access in
          subst Q c.index.ensures (omega (arith, same, w.if-queued-self.true)) in
          rw (w.self-is, w.place-is)
          (record { same = c.loop-queued.invariant.same; at = at_kept access c.args.self.now.queue.items m.queue.items c.loop-queued.place left Was Was at x late (λ done did. did) })
      | else-queued-self w ↦
          let early : (slice_index_or m.queue.items c.loop-queued.place x).access ≤ access =
          let Q : QueuedStep → Type 0 = λ q. q.access ≤ access in
          subst Q c.index.ensures (omega (arith, same, w.if-queued-self.false)) in
          let new = w.do_step-done.new.self in
          let taken = record m { queue = w.remove.new.self } in
          let DidStep : List DeviceStep → Type 0 = DoneSo g.S.SectorStore.size g.S.SectorStore.told g.S.SectorStore.failures first new in
          let R : QueuedStep → Type 0 = λ q. AnswersStep g.S.SectorStore.size g.S.SectorStore.told g.S.SectorStore.failures q.step w.do_step-done.result taken new in
          let one = subst R c.index.ensures w.do_step-done.ensures in
          let step : DeviceStep = (slice_index_or m.queue.items c.loop-queued.place x).step in
          let more : (done : List DeviceStep) → Was done → DidStep (done ++ step ∷ []) =
          λ (done : List DeviceStep) (did : Was done) (q : Vec QueuedStep).
          each_more g.S.SectorStore.size g.S.SectorStore.told g.S.SectorStore.failures done step w.do_step-done.result (record first { queue = q }) (record m { queue = q })
          (record new { queue = q }) (did q)
          (answers_queued g.S.SectorStore.size g.S.SectorStore.told g.S.SectorStore.failures step w.do_step-done.result taken new q one) in
          let keeps = did_or_left_keeps g.S.SectorStore.size g.S.SectorStore.told g.S.SectorStore.failures step taken new w.do_step-done.result one in
          let items : new.queue.items ≡ remove m.queue.items c.loop-queued.place =
          ap (λ (v : Vec QueuedStep). v.items) keeps.queue_is_kept ∙ w.remove.ensures.items in
          let T : List QueuedStep → Type 0 = λ now. IsAt access c.args.self.now.queue.items now c.loop-queued.place left DidStep in
          rw (w.self-is, w.place-is) (record {
            same = keeps.access_count_is_kept ∙ c.loop-queued.invariant.same;
            at = subst T (sym items) (at_done access c.args.self.now.queue.items m.queue.items c.loop-queued.place left Was DidStep at x early more);
          })
    ]

pub returns : goal.returns
returns g c =
    let m = c.loop-queued.self in
    let access : ℕ = c.add.new.self.saturating_count in
    let items = c.args.self.now.queue.items in
    let first = record c.args.self.now { accesses = c.add.new.self } in
    let none : c.len-queued-end.result - c.loop-queued._queued ≡ 0 = omega (arith, c.loop-queued-test.false) in
    let DidStep : List DeviceStep → Type 0 = DoneSo g.S.SectorStore.size g.S.SectorStore.told g.S.SectorStore.failures first m in
    let P : ℕ → Type 0 = λ n. IsAt access items m.queue.items c.loop-queued.place n DidStep in
    let at = subst P none c.loop-queued.invariant.at in
    let same = ap (λ (a : AccessCounter). a.saturating_count) c.loop-queued.invariant.same in
    let Q : AccessCounter → Type 0 = λ a.
    AnswersEachStep g.S.SectorStore.size g.S.SectorStore.told g.S.SectorStore.failures (steps_due_by_access a.saturating_count items) (record c.args.self.now { accesses = a; queue = m.queue }) m in
    record {
      access_is_counted = same ∙ c.add.ensures.shown;
      made_is = ap (λ (a : AccessCounter). a.count.made) c.loop-queued.invariant.same ∙ c.add.ensures.made;
      queue_is = at_end_left access items m.queue.items c.loop-queued.place DidStep at ∙ ap (λ n. later_steps n items) (sym same);
      does_due_steps = subst Q (sym c.loop-queued.invariant.same) (at_end_did access items m.queue.items c.loop-queued.place DidStep at m.queue);
    }
