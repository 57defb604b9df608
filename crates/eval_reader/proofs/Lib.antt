pub mod Grouping
pub mod Stepped
pub mod Taking
