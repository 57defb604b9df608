pub mod Waiting
pub mod Scripts
pub mod Uses
pub mod Guests
pub mod Short
