pub mod Fractions
pub mod CellLists
pub mod Numbers
pub mod Rows
mod Examples
mod Written
mod Chosen
