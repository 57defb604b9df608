pub mod Returns
pub mod Hiring
pub mod Crews
