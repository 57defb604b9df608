pub mod Ending
pub mod Feeding
pub mod Whole
