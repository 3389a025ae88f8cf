use Rattle.std.proofs.Common.{◌≤◌, vec_len}
use Rattle.std.specs.List.{All, AllPairs, Contains}
use Rattle.std.specs.Vec.{vec_capacity}
use Rattle.dma_frames.specs.FrameTables.{OwnersAndLoans}
use Rattle.server_history.specs.KeptLoans.{GivesBackLoans}
use Rattle.server_history.specs.ServerState.{DifferInRequest, IsLentOut}
use Rattle.port_driver.proofs.quarantine.Quarantine.give_back.Given as goal

-- the loans that are left may be given back
pub record LeftSoFar (l : goal.Live-loop-loan) : Type 0 where
  pub room : 32 ≤ vec_capacity l.self-inside.loans
  pub lent : All (IsLentOut l.table) l.self-inside.loans.items
  pub two : AllPairs DifferInRequest l.self-inside.loans.items
  -- once these are given back, all are
  pub goes : (new : OwnersAndLoans) → GivesBackLoans l.table new (Contains l.self-inside.loans.items) → GivesBackLoans l.fn.table new (Contains l.fn.self)

abbrev pub invariant-loop-loan : goal.invariant-loop-loan
invariant-loop-loan l = LeftSoFar l

abbrev pub decreases-loop-loan : goal.decreases-loop-loan
decreases-loop-loan l = vec_len l.self-inside.loans
