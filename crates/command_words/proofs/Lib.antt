pub mod Digits
pub mod Files
pub mod Paths
pub mod Rows
