pub mod ResultsBelow
pub mod FixedTest
pub mod Chains
pub mod Columns
pub mod Costs
pub mod Proposing
