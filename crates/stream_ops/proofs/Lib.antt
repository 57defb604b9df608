pub mod Answers
pub mod Counts
pub mod Cuts
pub mod Differing
pub mod Drops
pub mod Groupings
pub mod Matches
pub mod Numbers
