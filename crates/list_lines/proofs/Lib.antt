pub mod Runs
pub mod Timely
pub mod Reading
pub mod Given
