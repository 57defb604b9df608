pub mod Behind
pub mod Feeding
