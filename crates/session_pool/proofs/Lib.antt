pub mod Replaced
pub mod Ended
pub mod OneTurn
pub mod Failures
pub mod Pools
pub mod Alike
pub mod Lent
pub mod NewPools
