pub mod Enclosing
pub mod Raising
pub mod RowByRow
