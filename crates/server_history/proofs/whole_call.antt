-- A service and a tick: the turns of all ports, and what was done so far, turn by turn.
pub mod ServiceAndTick
pub mod Progress
pub mod TurnResults
pub mod EarlierResults
pub mod TurnDuties
pub mod EarlierDuties
pub mod UnreadyDuties
pub mod DutiesSoFar
pub mod AllTurns
pub mod Service
pub mod Tick
