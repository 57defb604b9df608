pub mod Saying
pub mod Texts
pub mod Stopping
pub mod Feeding
pub mod Finishing
pub mod Ending
pub mod Looking
pub mod Branching
