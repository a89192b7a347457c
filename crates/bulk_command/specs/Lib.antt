pub mod BulkText
pub mod BulkTables
pub mod NoFiles
pub mod BulkCommand
pub mod Running
