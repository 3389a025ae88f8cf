use Rattle.std.proofs.Common.{◌≤◌, ◌+◌, ◌-◌, length, take, drop, List, ℕ, arith, sym, subst}
use Rattle.std.specs.Io.KnownBytes.{Appends}
use Rattle.std.proofs.lemmas.Grind.{common_steps}
use Rattle.play.proofs.Printing.{appends_more, appends_kept, written_more}
use Rattle.play.proofs.printed.write_out.Goals as goal
use Rattle.play.proofs.printed.write_out.Goals.{in-Ok, in-Err}

inside : (bytes : List ℕ) (written count : ℕ) → written ≤ length bytes → count ≤ length (take (length bytes - written) (drop written bytes))
    → written + count ≤ length bytes
inside bytes written count within bound = grind (arith, common_steps)

pub loop-turn-preserved : goal.loop-turn-preserved
loop-turn-preserved g c =
    let contents = g.W.Write.contents in
    let before = contents c.args.out.now in
    let here = contents c.loop-turn.out in
    let after = contents c.write.new.self in
    let so_far = c.loop-turn.invariant in
    elim c.match-write.branch [
      | in-Ok w ↦ record {
        within = subst (λ (n : ℕ). n ≤ length c.args.bytes.now) (sym w.written-is)
            (inside c.args.bytes.now c.loop-turn.written w.in-Ok.count so_far.within w.in-Ok.ensures.bound);
        taken = subst (λ (n : ℕ). Appends before after (take n c.args.bytes.now)) (sym w.written-is)
            (subst (λ (bytes : List ℕ). Appends before after bytes) (written_more c.args.bytes.now c.loop-turn.written w.in-Ok.count)
            (appends_more before here after _ _ so_far.taken w.in-Ok.ensures.bytes));
      }
      | in-Err w ↦ record {
        within = subst (λ (n : ℕ). n ≤ length c.args.bytes.now) (sym w.written-is) so_far.within;
        taken = subst (λ (n : ℕ). Appends before after (take n c.args.bytes.now)) (sym w.written-is)
            (appends_kept before here after _ so_far.taken w.in-Err.ensures.bytes);
      }
    ]
