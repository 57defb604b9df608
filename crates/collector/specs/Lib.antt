pub mod Members
pub mod Filled
pub mod Trees
pub mod Streams
pub mod Collecting
pub mod Starting
pub mod Receiving
