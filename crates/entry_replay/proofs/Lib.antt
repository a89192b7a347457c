pub mod Resting
pub mod Moving
pub mod Replays
pub mod Refusals
pub mod Attempts
pub mod FileBits
pub mod Fronts
pub mod Traces
