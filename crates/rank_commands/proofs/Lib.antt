pub mod Staging
pub mod Pages
pub mod OneStage
pub mod OneOutcome
pub mod Complete
pub mod NoWords
