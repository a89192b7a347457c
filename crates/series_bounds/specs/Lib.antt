pub mod Series
pub mod ExactSums
pub mod Lists
pub mod Running
