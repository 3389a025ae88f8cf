pub mod ReferenceSituations
pub mod ReferenceHistories
