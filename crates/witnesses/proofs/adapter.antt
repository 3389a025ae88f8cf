-- Runs of an adapter with its driver, from idle on: for each kind of step a state in which it can come.
pub mod Sets
pub mod RunningAdapter
pub mod Ports
pub mod Started
pub mod Queued
pub mod Resetting
pub mod Trimming
pub mod Stopping
pub mod Senseless
pub mod Losing
