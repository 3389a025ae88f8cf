-- The turn of a served port that isn't ready: it is looked at, and booted where a disk may have come.
pub mod UnfitPort
pub mod IdleLook
pub mod TriedDisk
pub mod TriedPort
pub mod AnotherBoot
pub mod TurnAsCall
pub mod CallPart
