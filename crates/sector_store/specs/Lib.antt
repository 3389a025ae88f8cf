pub mod Stores
pub mod Pages
pub mod Disks
