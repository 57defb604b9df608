pub mod Joined
pub mod Seen
pub mod Listed
pub mod Plans
pub mod Laws
pub mod Worked
