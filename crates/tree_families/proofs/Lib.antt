pub mod Families
pub mod Counting
pub mod Pacing
pub mod Finishing
pub mod Noting
pub mod Leavers
