pub mod Stepping
pub mod Ruling
pub mod Refusing
pub mod Running
pub mod Wanted
pub mod Turns
pub mod Making
pub mod Accepting
mod Placing
pub mod Healthy
pub mod Keeping
pub mod Standing
pub mod Reviving
pub mod Revoking
mod Counting
mod Saying
mod Four
mod Newest
mod Becoming
