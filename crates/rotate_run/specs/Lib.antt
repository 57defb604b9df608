pub mod Rooms
pub mod Rans
pub mod Homes
