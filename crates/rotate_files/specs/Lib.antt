pub mod Acts
pub mod Told
pub mod Visible
pub mod Rotating
pub mod Stops
pub mod Copies
pub mod Beginning
