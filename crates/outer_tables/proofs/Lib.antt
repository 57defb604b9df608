pub mod Pieces
pub mod Acquiring
pub mod Outcomes
pub mod OneRow
pub mod Trying
pub mod Reading
