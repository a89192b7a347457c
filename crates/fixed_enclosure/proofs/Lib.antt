pub mod Quotients
pub mod Enclosing
pub mod Powers
pub mod Monotone
pub mod Fitting
