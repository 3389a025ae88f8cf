pub mod Laws
pub mod States
pub mod Outcomes
pub mod Costs
