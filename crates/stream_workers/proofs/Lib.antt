pub mod Returning
pub mod Threads
