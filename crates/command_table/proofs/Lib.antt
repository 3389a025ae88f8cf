pub mod Cover
pub mod Parts
pub mod Zeros
pub mod Saying
pub mod Storing
