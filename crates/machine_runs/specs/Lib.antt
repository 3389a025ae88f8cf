pub mod AnswerOrigins
pub mod ExampleRuns
pub mod RevocationRuns
