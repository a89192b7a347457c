pub mod Words
pub mod Values
pub mod Commands
pub mod Fractions
pub mod Reading
pub mod Views
