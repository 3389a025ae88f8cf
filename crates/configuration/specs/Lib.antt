pub mod Document
pub mod Ranges
pub mod Rules
pub mod Schema
pub mod TomlTables
pub mod PlanParts
pub mod Plan
