pub mod Parts
pub mod Moves
pub mod Standing
pub mod Works
pub mod Kept
pub mod Turns
pub mod Places
