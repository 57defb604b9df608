pub mod Branches
pub mod Reader
pub mod Tee
pub mod Whole
pub mod Worked
