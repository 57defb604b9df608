pub mod Things
pub mod Walked
pub mod Ends
pub mod Counted
pub mod Ended
