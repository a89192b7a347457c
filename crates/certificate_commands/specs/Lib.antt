pub mod CertificateStage
pub mod Tested
pub mod VerifyCommand
pub mod MigrateCommand
pub mod Completeness
pub mod SampleText
