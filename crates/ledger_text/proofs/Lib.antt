pub mod Words
pub mod Spelled
pub mod Lines
pub mod Readings
pub mod Forward
pub mod Beginnings
pub mod Closing
