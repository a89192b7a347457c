pub mod Rounded
pub mod Enclosure
pub mod UpperValues
