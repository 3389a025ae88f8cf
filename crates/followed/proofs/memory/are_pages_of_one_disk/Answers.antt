use Rattle.std.proofs.Common.{List, ℕ, subst}
use Rattle.followed.specs.ComparedBytes.{ReadSame}
use Rattle.followed.proofs.memory.are_pages_of_one_disk.Goals as goal

pub returns : goal.returns
returns c = λ same.
    let shown = c.in-Ok.ensures.1 in
    let said = c.in-Ok-try_from.ensures.1 in
    let Shown : List ℕ → Type 0 = λ page. ReadSame page c.in-Ok-try_from.of_peer.now in
    let Said : List ℕ → Type 0 = λ page. ReadSame c.args.shown.now page in
    record {
      is_scratch_frame = c.is_scratch_frame.ensures.0 c.if-not-is_scratch_frame.false;
      shown_is_page = shown.long;
      said_is_page = said.long;
      read_same = subst Said said.same (subst Shown shown.same (c.read_same.ensures same));
    }
