pub mod Account
pub mod Nodes
pub mod Ran
pub mod Rooms
pub mod Steps
