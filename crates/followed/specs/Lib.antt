pub mod Asking
pub mod ComparedBits
pub mod ComparedBytes
pub mod DifferingSlots
