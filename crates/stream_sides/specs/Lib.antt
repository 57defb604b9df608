pub mod Sides
pub mod MergeTurns
pub mod Waiting
