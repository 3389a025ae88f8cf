use Rattle.std.proofs.Common.{ℕ, ◌*◌, ◌++◌, ◌∷◌, List, [], length, sym, ap, ◌∙◌, subst, arith, append_assoc}
use Rattle.std.proofs.lemmas.List.{append-nil, length-append, length-drop, drop_all}
use Rattle.adapter.specs.declared.command.Prd.{Prd}
use Rattle.command_table.specs.FrameRuns.{PrdsCoverFrames}
use Rattle.command_table.proofs.Cover.{Fits, joined_more, joined_cover, all_whole, all_allowed}
use Rattle.command_table.proofs.prds_of_frames.Goals as goal

pub loop-covered-init : goal.loop-covered-init
loop-covered-init g c = record {
  number = let e = ap length c.new-entries.ensures in omega (arith, e);
  room = omega arith;
  within = let w = c.requires.fill.bytes_fit in omega (arith, w);
  last = let l = c.requires.fill.last_frame_is_used in omega (arith, l);
  joined = λ es j. subst (λ (xs : List Prd). PrdsCoverFrames c.args.frames.now c.args.bytes (xs ++ es)) (sym c.new-entries.ensures) j;
}

pub loop-covered-preserved : goal.loop-covered-preserved
loop-covered-preserved g c =
    let v = c.loop-covered.invariant in
    let frames = c.args.frames.now in
    let covered = c.loop-covered.covered in
    let count = c.run_length-count.result in
    let run = c.run_length-count.ensures in
    let d = length-drop covered frames in
    let w = run.length_in_range in
    let some = run.is_not_empty in
    let room = v.room in
    let size = c.min-bytes.ensures in
    let last = v.last in
    let within = v.within in
    let number = v.number in
    record {
      number = let e = ap length c.push.ensures.items in omega (arith, e, length-append {A = Prd}, number, some);
      room = omega (arith, d, w, room);
      within = omega (arith, d, w, size, within, last);
      last = omega (arith, d, w, size, within, last);
      joined = λ es j.
          let e : Prd = record { address = 4096 * c.from.result; bytes = c.min-bytes.result } in
          let more = v.joined (e ∷ es) (joined_more frames covered c.loop-covered.left count e es c.loop-covered-test.true v.last run (ap (λ (x : ℕ). 4096 * x) c.from.ensures) size j) in
          subst (PrdsCoverFrames frames c.args.bytes) (sym (append_assoc c.loop-covered.entries.items (e ∷ []) es) ∙ ap (λ (xs : List Prd). xs ++ es) (sym c.push.ensures.items)) more;
    }

pub returns : goal.returns
returns g c =
    let v = c.loop-covered.invariant in
    let frames = c.args.frames.now in
    let within = v.within in
    let number = v.number in
    let room = v.room in
    let over = c.loop-covered-test.false in
    let fits : Fits frames c.args.bytes = record { within = c.requires.fill.bytes_fit; last = c.requires.fill.last_frame_is_used } in
    let j : PrdsCoverFrames frames c.args.bytes c.loop-covered.entries.items =
    subst (PrdsCoverFrames frames c.args.bytes) (append-nil c.loop-covered.entries.items) (v.joined [] (drop_all c.loop-covered.covered frames over, omega (arith, within, over))) in
    record {
      cover_frames = j;
      count_is_allowed = omega (arith, number, room);
      allowed = all_allowed c.loop-covered.entries.items frames c.args.bytes fits c.requires.fill.even (let few = c.requires.fill.frame_count_is_allowed in omega (arith, few)) j;
      are_whole_pieces = λ whole. all_whole c.loop-covered.entries.items frames c.args.bytes whole j;
      places = λ whole. joined_cover frames c.args.bytes c.loop-covered.entries.items fits j whole;
    }
