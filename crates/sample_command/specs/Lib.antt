pub mod Starts
pub mod Drawn
pub mod UnderWay
pub mod SampleCommand
