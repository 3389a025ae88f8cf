pub mod Issuing
pub mod Batches
pub mod Masks
pub mod Tasks
pub mod Witness
pub mod Costs
