pub mod Places
pub mod Told
pub mod Orders
pub mod Seats
pub mod Laws
pub mod Handles
pub mod Marked
