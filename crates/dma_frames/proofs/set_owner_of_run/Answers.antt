use Rattle.ata_types.specs.declared.memory.TheConstants.{MOST_FRAMES}
use Rattle.std.proofs.Common.{ℕ, ◌≡◌, ◌<◌, ◌≤◌, ◌+◌, ◌*◌, get_or, length, None, Some, ap, ◌∙◌, arith, inl, inr}
use Rattle.std.proofs.lemmas.Bool.{cases_eq}
use Rattle.std.proofs.lemmas.List.{length-set}
use Rattle.dma_frames.specs.FrameTables.{FrameExtent, IsValidExtent}
use Rattle.dma_frames.specs.TableWords.{owners_of}
use Rattle.dma_frames.proofs.OwnerWords.{later, owner_put, owners_stay}
use Rattle.dma_frames.proofs.set_owner_of_run.Goals as goal

in_memory : (run : FrameExtent) (k : ℕ) → IsValidExtent run → run.1.0 ≤ k → k < run.1.0 + run.2 → k < MOST_FRAMES
in_memory run k is low high = is.2 (record { 0 = k }) (low, high)

pub bounds-owners-place-in-loop-place : goal.bounds-owners-place-in-loop-place
bounds-owners-place-in-loop-place c =
    let inside = in_memory _ c.loop-place.place c.requires.run (omega arith) (omega arith) in let n = c.loop-place.invariant.words in omega (arith, inside, n)

pub bounds-owners-place : goal.bounds-owners-place
bounds-owners-place c =
    let inside = in_memory _ c.loop-place.place c.requires.run (omega arith) (omega arith) in let n = c.loop-place.invariant.words in omega (arith, inside, n)

pub loop-place-preserved : goal.loop-place-preserved
loop-place-preserved c =
    let v = c.loop-place.invariant in
    let words = c.loop-place.owners in
    let place = c.loop-place.place in
    let n = c.from.result in
    let is = c.from.ensures in
    let run = c.requires.run in
    let low = run.0 in
    let high = run.1 in
    let many = v.words in
    let first : c.args.run.now.1.0 ≤ place = c.loop-place.auto.place in
    let inside = in_memory _ place run first c.loop-place-test.true in
    let within : place < 16 * length words = omega (arith, inside, many) in
    let some : 1 ≤ n = omega (arith, low, is) in
    let small : n < 16 = omega (arith, high, is) in
    let free : get_or (owners_of words) place None ≡ None = v.after place (omega arith) ∙ c.requires.nobody (record { 0 = place }) (first, c.loop-place-test.true) in
    let put = owner_put words place n within some small free in
    let stay = owners_stay words place n within some small free in
    record {
      words = length-set words _ _ ∙ v.words;
      these = λ k p q. elim (cases_eq k place) [
        | inl e ↦ ap (λ (i : ℕ). get_or (owners_of (later words place n within some small free)) i None) e ∙ (put ∙ ap (λ (x : ℕ). Some (record { 0 = x })) is)
        | inr not ↦ stay k not ∙ v.these k p (omega arith)
      ];
      before = λ k p. stay k (λ e. omega (arith, e, first, p)) ∙ v.before k p;
      after = λ k p. stay k (λ e. omega (arith, e, p)) ∙ v.after k (omega (arith, p));
    }
