-- The turn of a ready port that is left as it was: what is done is answered, and what is due is issued.
pub mod OneAnswer
pub mod AnswersAndIssues
pub mod TurnAsCall
pub mod CallPart
pub mod ServedPort
