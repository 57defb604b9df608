pub mod Written
pub mod Swapping
pub mod Nexts
pub mod Writes
pub mod Gives
pub mod Reading
pub mod Beginnings
pub mod Rotated
