pub mod OneFault
pub mod Printing
pub mod Prints
