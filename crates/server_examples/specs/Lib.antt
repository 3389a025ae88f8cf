pub mod NumberedSectors
pub mod ShownHistories
