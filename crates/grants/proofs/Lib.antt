mod Halving
mod PermutedPairs
mod Revoking
mod RowLemmas
mod RuleLemmas
