pub mod Families
pub mod Pace
pub mod Leaving
pub mod Laws
