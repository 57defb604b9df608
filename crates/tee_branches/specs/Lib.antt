pub mod Messages
pub mod Moves
pub mod Stands
pub mod Turns
pub mod Branches
