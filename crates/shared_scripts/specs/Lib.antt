pub mod Races
pub mod Rows
pub mod Scopes
pub mod Crowds
pub mod Guests
