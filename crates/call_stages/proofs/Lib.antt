pub mod Endings
pub mod Staging
pub mod BaseSearch
pub mod Held
pub mod LinesBelow
pub mod OneRefusal
pub mod OneReading
pub mod Completing
