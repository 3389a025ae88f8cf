pub mod Masks
mod Free
