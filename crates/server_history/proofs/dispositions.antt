-- Requests of a port meet their fates: in the book, among the loans that are kept, in the machine, and in what
-- is answered.
pub mod FateReasons
pub mod AnswerOrder
pub mod FittingFates
pub mod RemainingBook
pub mod MetFates
pub mod MoreKeptLoans
