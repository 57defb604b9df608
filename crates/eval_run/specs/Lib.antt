pub mod Eval
pub mod Printing
pub mod Pumping
pub mod Ready
pub mod Runs
