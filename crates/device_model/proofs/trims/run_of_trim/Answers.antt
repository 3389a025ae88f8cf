use Rattle.std.proofs.Common.{ℕ, ◌≡◌, ◌∙◌, List, take, arith, length-take}
use Rattle.device_model.specs.Trims.{first_run_length, uncleared}
use Rattle.device_model.specs.PortView.{taken_of}
use Rattle.device_model.proofs.Runs.{run_long}
use Rattle.device_model.proofs.Trimming.{run_one}
use Rattle.device_model.proofs.trims.run_of_trim.Goals as goal
use Rattle.device_model.proofs.trims.run_of_trim.Goals.{else-run-most-via-then-run-most+else-uncleared_of-most, else-run-most-via-else-run-most}

pub returns-then-run-eq0-clause-none : goal.returns-then-run-eq0-clause-none
returns-then-run-eq0-clause-none c = λ _ can.
    let run = c.next_run-run.result in
    let asked = c.max.ensures in
    let count : run.count ≡ first_run_length (take c.max.result (uncleared (taken_of c.args.command.now))) = rw c.requires.block at c.next_run-run.ensures.count in
    let one = can.some_are_left in
    let enough = can.enough_are_left in
    let some = run_one c.max.result (uncleared (taken_of c.args.command.now)) (omega (arith, asked)) (omega (arith, asked, one, enough)) in
    let none = c.if-run-eq0.true in
    absurd (omega (arith, count, some, none))

pub returns-clause-can : goal.returns-clause-can
returns-clause-can c =
    let run = c.next_run-run.result in
    let left : List ℕ = uncleared (taken_of c.args.command.now) in
    let ne = c.if-run-eq0.false in
    let count : run.count ≡ first_run_length (take c.max.result left) = rw c.requires.block at c.next_run-run.ensures.count in
    let long = run_long (take c.max.result left) in
    let size = length-take c.max.result left in
    record {
      trim = c.is_trim.ensures.0 c.if-not-is_trim.false;
      block_is_moved = c.if-command-count_pieces.false ∙ (rw c.as_slice.ensures.same at c.count_pieces.ensures);
      some_are_left = omega (arith, ne, count, long, size);
      enough_are_left = elim c.else-run-most.branch [
        | else-run-most-via-then-run-most+else-uncleared_of-most w ↦
            let least = w.if-uncleared_of-most.false in
            let is = w.uncleared_of.ensures in
            omega (arith, least, is)
        | else-run-most-via-else-run-most w ↦
            let whole = w.if-run-most.false in
            omega (arith, whole, long, size, count)
      ];
    }
