-- What the turn of any port is, ready or not: its steps, the parts that a call joins, and the trouble that its
-- look tells.
pub mod TurnSteps
pub mod TurnsInOrder
pub mod JoinedParts
pub mod UnusedSlotBits
pub mod ShownTrouble
pub mod ShownDevice
pub mod ToldTrouble
pub mod HeededTrouble
