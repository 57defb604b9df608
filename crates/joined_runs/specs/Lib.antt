pub mod Devices
pub mod Shares
pub mod Together
pub mod Laws
pub mod Worked
