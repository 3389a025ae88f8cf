use Rattle.std.proofs.Common.{◌≡◌, ◌≤◌, false}
use Rattle.std.specs.Vec.{vec_capacity}
use Rattle.block_server.specs.declared.said.TheConstants.{MOST_SAID}
use Rattle.script.specs.Script.{lines_of}
use Rattle.play.proofs.Printing.{PlayedSoFar, bytes_left}
use Rattle.play.proofs.session.play_lines.Given as goal

abbrev pub invariant-loop-rest : goal.invariant-loop-rest
invariant-loop-rest g l = record {
  fed : g.A.TapedAdapter.ended l.server.adapter ≡ false;
  room : MOST_SAID ≤ vec_capacity l.room.said;
  played : PlayedSoFar g.A.Adapter.device g.A.TapedAdapter.ended l.trace l.initial.server (lines_of l.script) l.server l.shown l.rest
      (g.W.Write.contents l.initial.out) (g.W.Write.contents l.out);
}

abbrev pub decreases-loop-rest : goal.decreases-loop-rest
decreases-loop-rest g l = bytes_left l.rest
