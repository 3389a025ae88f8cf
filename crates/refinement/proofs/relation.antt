-- The state relation of device and machine: what the relation of a slot speaks of, and what leaves it.
pub mod LastingSectors
pub mod ReachedMachine
pub mod TouchesAndEnds
pub mod SlotRelation
pub mod OneSlot
pub mod WrittenBytes
pub mod OtherSlots
pub mod ServedRequests
pub mod IdleAgreement
