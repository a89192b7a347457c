pub mod ChanceCommand
pub mod Completeness
