pub mod Agreeing
pub mod Coming
pub mod Listing
pub mod Steps
pub mod Writing
pub mod Learning
pub mod Written
