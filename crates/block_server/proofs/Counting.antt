-- What calls of a list cost and say, one after another.
use Rattle.std.proofs.Common.{ℕ, ◌≡◌, ◌+◌, ◌≤◌, ◌++◌, ◌∷◌, [], List, suc, zero, take, arith}
use Rattle.block_server.specs.Costs.{most_accesses_of, most_accesses_of_all}
use Rattle.block_server.specs.Said.{most_said_of, most_said_of_all}
use Rattle.ata_types.specs.declared.call.Call.{Call}
use Rattle.adapter.specs.declared.access.DeviceStep.{DeviceStep}

-- one more call
pub most_more : (calls : List (Call DeviceStep)) (call : Call DeviceStep) → most_accesses_of_all (calls ++ call ∷ []) ≡ most_accesses_of_all calls + most_accesses_of call
most_more [] call = omega arith
most_more (first ∷ calls) call = let rest = most_more calls call in omega (arith, rest)

-- the first of them cost no more than all
pub most_taken : (n : ℕ) (calls : List (Call DeviceStep)) → most_accesses_of_all (take n calls) ≤ most_accesses_of_all calls
most_taken zero calls = omega arith
most_taken (suc n) [] = omega arith
most_taken (suc n) (call ∷ calls) = let rest = most_taken n calls in omega (arith, rest)

-- one more says so much more
pub said_more : (calls : List (Call DeviceStep)) (call : Call DeviceStep) → most_said_of_all (calls ++ call ∷ []) ≡ most_said_of_all calls + most_said_of call
said_more [] call = omega arith
said_more (first ∷ calls) call = let rest = said_more calls call in omega (arith, rest)

-- the first of them say no more than all
pub said_taken : (n : ℕ) (calls : List (Call DeviceStep)) → most_said_of_all (take n calls) ≤ most_said_of_all calls
said_taken zero calls = omega arith
said_taken (suc n) [] = omega arith
said_taken (suc n) (call ∷ calls) = let rest = said_taken n calls in omega (arith, rest)
