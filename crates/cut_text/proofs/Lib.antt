pub mod Tails
pub mod Passing
pub mod Whole
