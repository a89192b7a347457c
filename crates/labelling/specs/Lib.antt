pub mod LabelsByBits
pub mod Answer
pub mod Tree
pub mod Progress
pub mod Spelled
