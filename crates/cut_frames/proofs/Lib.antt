pub mod Numbers
pub mod Fronts
pub mod Steps
pub mod Turns
