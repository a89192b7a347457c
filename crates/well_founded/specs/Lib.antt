pub mod Foundedness
pub mod Rounds
pub mod EmptyObjects
pub mod Ways
pub mod Marking
pub mod Examination
