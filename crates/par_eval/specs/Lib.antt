pub mod Hows
pub mod Messages
pub mod Lanes
pub mod Hands
pub mod Inboxes
pub mod Dealers
pub mod Sides
