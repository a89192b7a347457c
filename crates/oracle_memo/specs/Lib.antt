pub mod Levels
pub mod Memos
