pub mod Bounds
pub mod Tales
pub mod Ended
pub mod Keeping
pub mod Steps
pub mod Records
pub mod Laws
pub mod Worked
