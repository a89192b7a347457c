pub mod Schedule
pub mod PoolCommand
pub mod UnderWay
pub mod Pages
pub mod Schedules
