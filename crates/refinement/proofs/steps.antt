-- The machine follows each step of the device, and what such steps leave; and each call of the adapter.
pub mod WrittenSector
pub mod DiskChanges
pub mod TakenCommand
pub mod MovedSector
mod MovesByOperation
mod ClearedSectors
pub mod EndedCommand
pub mod FollowedSteps
pub mod AdapterCalls
pub mod RegisterWrites
pub mod WaitingRequests
pub mod SparedBook
pub mod StillFrames
pub mod FreeBytes
pub mod UnusedSlots
