-- A reset that gets stuck, and the calls of a server whose adapter is off since.
pub mod ServerBook
pub mod StuckInstant
pub mod DeadPortSteps
pub mod StuckReset
pub mod StuckCalls
pub mod StuckService
