pub mod Visit
pub mod Belonging
pub mod State
pub mod Answer
pub mod Ahead
pub mod Compared
