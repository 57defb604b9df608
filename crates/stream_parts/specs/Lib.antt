pub mod Retire
pub mod Made
pub mod Named
pub mod Same
pub mod Parts
