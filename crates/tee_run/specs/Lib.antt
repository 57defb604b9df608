pub mod Chains
pub mod Reading
pub mod Rooms
pub mod Tee
pub mod Telling
