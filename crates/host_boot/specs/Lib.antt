pub mod Laws
pub mod TakeOver
pub mod Reboots
pub mod Resets
pub mod Costs
pub mod Tokens
