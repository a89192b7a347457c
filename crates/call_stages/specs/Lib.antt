pub mod Statuses
pub mod Outcomes
pub mod Ends
pub mod Lines
pub mod Refusals
pub mod Reports
pub mod Stages
