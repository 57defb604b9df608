pub mod Words
pub mod Holding
pub mod Keeping
pub mod Threads
