mod Seeing
pub mod Keeping
pub mod Allowed
pub mod Slots
pub mod Pairs
mod Guests
pub mod Marking
pub mod Openings
pub mod Itself
mod Ordering
pub mod Sitting
pub mod Called
mod Calls
mod Ledgers
