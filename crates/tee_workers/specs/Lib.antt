pub mod Returns
pub mod Hiring
