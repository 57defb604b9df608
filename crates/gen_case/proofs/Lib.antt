pub mod Counting
pub mod Frames
pub mod Tallies
pub mod Sums
pub mod Ideal
pub mod Sound
pub mod Rendering
mod Making
mod Counted
pub mod Found
pub mod Nodes
