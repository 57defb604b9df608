pub mod Piped
pub mod Taking
pub mod Linked
pub mod Steady
pub mod Chained
pub mod Begun
pub mod Giving
pub mod Runs
