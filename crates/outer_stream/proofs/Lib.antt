pub mod Keeping
pub mod Gave
pub mod Follow
pub mod Stepping
pub mod Begun
pub mod Going
