-- Devices and machines of which the laws speak, one by one: that what they ask can be met.
mod AcceptedRequests
mod SpeltSlot
pub mod PortWitnesses
pub mod FirstRead
pub mod ParkedRead
pub mod EndedRead
pub mod QueuedReads
pub mod Trim
pub mod IdentifyDevice
pub mod ReadLog
pub mod Boot
pub mod PlainNeeds
pub mod RecoveredFault
