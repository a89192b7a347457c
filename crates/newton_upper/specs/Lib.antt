pub mod Checked
pub mod Below
pub mod Candidates
pub mod Newton
pub mod BaseRule
pub mod Fitting
