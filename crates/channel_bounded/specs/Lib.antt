pub mod Streams
pub mod Queue
pub mod Ends
pub mod Causes
