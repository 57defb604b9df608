pub mod Steps
pub mod Runs
pub mod Texts
pub mod Timely
pub mod Listings
