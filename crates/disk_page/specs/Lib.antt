pub mod PageRequests
pub mod Laws
pub mod PageWaits
pub mod Costs
