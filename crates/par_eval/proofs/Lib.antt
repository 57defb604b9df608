pub mod Pairs
pub mod Answering
pub mod Places
pub mod Receiving
pub mod SeatLists
pub mod Dealing
pub mod Threads
