-- The definitions that the contracts cite.
pub mod PrintedText
pub mod PlayedScript
