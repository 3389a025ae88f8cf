use Rattle.script.proofs.ScriptLemmas.{LookedAt, bytes_left}
use Rattle.script.proofs.script.check_script.Given as goal

abbrev pub invariant-loop-rest : goal.invariant-loop-rest
invariant-loop-rest l = LookedAt l.text l.number l.rest

abbrev pub decreases-loop-rest : goal.decreases-loop-rest
decreases-loop-rest l = bytes_left l.rest
