pub mod Quarters
pub mod Sectors
pub mod Words
