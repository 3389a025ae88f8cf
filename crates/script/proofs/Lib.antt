pub mod FrameLemmas
pub mod HexLemmas
pub mod LineLemmas
pub mod ScriptLemmas
pub mod StepLemmas
pub mod WordLemmas
mod NumberLemmas
mod PartLemmas
