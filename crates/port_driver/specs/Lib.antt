pub mod SlotTables
pub mod PortAndShared
pub mod LentSlots
pub mod Issuing
pub mod Modes
pub mod LoanRoom
pub mod Recovery
pub mod Costs
