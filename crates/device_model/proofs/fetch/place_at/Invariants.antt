use Rattle.device_model.proofs.Fetches.{IsBefore}
use Rattle.device_model.proofs.fetch.place_at.Given as goal

abbrev pub invariant-loop-prd : goal.invariant-loop-prd
invariant-loop-prd l = IsBefore l.prds l.prd-index l.number l.left
