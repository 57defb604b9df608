pub mod Kept
pub mod Listed
pub mod Standing
pub mod Opening
pub mod Behind
pub mod Lines
pub mod Reading
pub mod Pulling
