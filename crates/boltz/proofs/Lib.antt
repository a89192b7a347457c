pub mod Bounding
pub mod OracleCommand
pub mod Commands
pub mod Calls
pub mod Complete
