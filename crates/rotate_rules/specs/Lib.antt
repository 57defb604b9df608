pub mod Pieces
pub mod Rotation
pub mod Worked
