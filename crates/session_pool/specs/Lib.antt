pub mod Member
pub mod Pool
pub mod Turn
pub mod Interleaving
