use Rattle.adapter.specs.Encoding.{AreZero}
use Rattle.fis.proofs.are_zero.Given as goal

abbrev pub invariant-loop-place : goal.invariant-loop-place
invariant-loop-place l = AreZero l.bytes l.from l.place
