pub mod relation
pub mod steps
pub mod device
pub mod driver
pub mod witnesses
