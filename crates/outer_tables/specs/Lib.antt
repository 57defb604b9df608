pub mod Causes
pub mod Whole
pub mod Devices
pub mod Outcomes
pub mod Rows
pub mod Tables
