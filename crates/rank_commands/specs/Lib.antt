pub mod RankStages
pub mod Faults
pub mod CountCommand
pub mod UnrankCommand
pub mod RankCommand
pub mod Fit
