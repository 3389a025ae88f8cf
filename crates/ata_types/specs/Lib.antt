pub mod SectorGrants
pub mod Range
