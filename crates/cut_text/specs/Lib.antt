pub mod Tails
pub mod Cuttings
pub mod Whole
