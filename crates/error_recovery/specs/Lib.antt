pub mod ErrorLog
pub mod Evidence
pub mod Recovery
pub mod RecoveryParts
pub mod Laws
pub mod Witness
pub mod Costs
