pub mod SpecCommand
pub mod OracleCommand
pub mod Answers
pub mod Commands
pub mod Complete
