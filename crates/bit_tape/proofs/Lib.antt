pub mod GivenBits
pub mod HeldWords
pub mod Leaving
pub mod NewTapes
pub mod NextBits
pub mod PeekedBits
