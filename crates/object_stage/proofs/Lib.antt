pub mod Feeds
pub mod Judging
pub mod OneObject
