pub mod Asking
pub mod Leaving
