pub mod Streams
pub mod Moves
pub mod Causes
pub mod Threads
