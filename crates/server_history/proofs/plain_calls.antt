-- Calls in which no port has a turn, and what turns have of them: looks, refusals, the bytes of clients,
-- acceptances, issues, and requests that get older.
pub mod Looks
pub mod RefusalsAndBytes
pub mod AcceptableRequests
pub mod Acceptances
pub mod RequestsInSlots
pub mod NextSlots
pub mod IssuedTogether
pub mod IssueRounds
pub mod OlderRequests
