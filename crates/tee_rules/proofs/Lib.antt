pub mod Given
pub mod Exits
mod Accounted
pub mod Worked
mod Refused
mod Whole
