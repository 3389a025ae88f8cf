-- A reset that ends: the adapter is taken over again, all requests meet their fates, and what is due is issued.
pub mod ResetDevice
pub mod BootedPorts
pub mod FoundDisks
pub mod ResetAccesses
pub mod ResetEvidence
pub mod FatesOfAllPorts
pub mod RetakenMachine
pub mod ServerAfterReset
pub mod IssuesOfAllPorts
pub mod ResetSteps
pub mod Reset
