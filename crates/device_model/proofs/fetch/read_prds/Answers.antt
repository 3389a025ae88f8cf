use Rattle.std.proofs.Common.{◌<◌, [], ◌∷◌, length, length-append, arith, refl, slice_index_or}
use Rattle.std.proofs.lemmas.List.Elements.{All-append}
use Rattle.adapter.specs.Decoding.{IsWholePieces}
use Rattle.device_model.specs.FetchedBytes.{bytes_of, no_prd}
use Rattle.device_model.proofs.Fetches.{has_at, has_more, only_one}
use Rattle.device_model.proofs.fetch.read_prds.Goals as goal

pub returns-in_default-clause-only : goal.returns-in_default-clause-only
returns-in_default-clause-only c = λ _ es n has whole.
    let small : c.loop-i.i < length es = omega arith in
    let read = c.in_default.ensures.only (slice_index_or es c.loop-i.i no_prd)
    (has_at (bytes_of c.args.memory.now) c.args.at es c.loop-i.i has small) (whole c.loop-i.i no_prd small) in
    absurd (cc (read))

pub loop-i-preserved : goal.loop-i-preserved
loop-i-preserved c =
    let here = rw (← c.loop-i.invariant.size) at c.in-Some.ensures.found.0 in
    rw c.push.ensures (record {
      stand = has_more (bytes_of c.args.memory.now) c.args.at c.loop-i.prds c.in-Some.prd c.loop-i.invariant.stand here;
      whole = All-append IsWholePieces c.loop-i.prds (c.in-Some.prd ∷ []) c.loop-i.invariant.whole (only_one c.in-Some.prd c.in-Some.ensures.found.1);
      size = omega (arith, length-append c.loop-i.prds (c.in-Some.prd ∷ []), c.loop-i.invariant.size);
    })

pub returns-clause-found : goal.returns-clause-found
returns-clause-found c = λ _.
    record {
      stored_prds = c.loop-i.prds;
      prd_count_is = omega (arith, c.loop-i.invariant.size, c.loop-i-test.false, c.loop-i.auto);
      prds_are_encoded = c.loop-i.invariant.stand;
      prds_are_whole_pieces = c.loop-i.invariant.whole;
      pieces_are = refl;
    }
