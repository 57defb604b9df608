mod Loads
mod Every
mod Topics
mod Settling
mod Pushing
mod Begun
mod Follows
pub mod Threads
pub mod Plain
