pub mod Verdict
pub mod Pending
pub mod Worked
