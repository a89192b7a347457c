pub mod FewTokens
pub mod RootBounds
pub mod Weighing
pub mod Encloses
