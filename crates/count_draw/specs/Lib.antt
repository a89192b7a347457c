pub mod Kinds
pub mod Decision
pub mod Table
pub mod Answer
pub mod Row
pub mod FirstCounts
pub mod ComparedCounts
