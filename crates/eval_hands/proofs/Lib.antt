pub mod Backs
pub mod Deals
pub mod Crewing
pub mod Goings
