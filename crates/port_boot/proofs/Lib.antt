pub mod Stretching
pub mod Bringing
pub mod Identifying
pub mod Enduring
pub mod Outcomes
pub mod Staying
pub mod Owning
