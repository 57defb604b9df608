pub mod Seen
pub mod Plain
