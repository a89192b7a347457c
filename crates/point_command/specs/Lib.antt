pub mod PointCommand
pub mod Completeness
