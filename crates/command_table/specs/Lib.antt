pub mod Laws
pub mod SectorPlaces
pub mod FrameRuns
pub mod BufferBytes
pub mod TableStores
pub mod Costs
