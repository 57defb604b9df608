pub mod Over
pub mod Links
pub mod Chains
pub mod Worked
