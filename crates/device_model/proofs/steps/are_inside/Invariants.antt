use Rattle.std.proofs.Common.{ℕ, ◌<◌, slice_index_or}
use Rattle.adapter.specs.declared.command.Prd.{Prd}
use Rattle.device_model.specs.Finishing.{IsInside}
use Rattle.device_model.proofs.steps.are_inside.Given as goal

abbrev pub invariant-loop-prd : goal.invariant-loop-prd
invariant-loop-prd l = (k : ℕ) → k < l.prd-index → (d : Prd) → IsInside l.size (slice_index_or l.prds k d)
