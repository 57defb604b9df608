pub mod Exchanged
pub mod Making
pub mod Naming
pub mod PartsMade
