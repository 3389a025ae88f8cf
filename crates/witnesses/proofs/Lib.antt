pub mod adapter
pub mod history
