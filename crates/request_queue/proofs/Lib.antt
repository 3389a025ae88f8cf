pub mod Members
pub mod Keeping
pub mod Taking
pub mod Walk
pub mod Own
pub mod Stepping
pub mod ClientCounts
pub mod Changing
pub mod Alone
pub mod AllChanged
pub mod BookIndexes
pub mod Ending
pub mod Working
pub mod Listing
pub mod Finding
pub mod Lending
pub mod PermutedPairs
pub mod Indexing
pub mod Flushing
pub mod InTheWay
pub mod Unheld
pub mod Holding
pub mod AnsweringAll
pub mod Aging
mod Editing
mod Leading
mod Ends
mod Sorting
mod Placed
mod Conflicting
