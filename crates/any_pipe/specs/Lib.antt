pub mod AnyState
pub mod Pouring
pub mod Dues
