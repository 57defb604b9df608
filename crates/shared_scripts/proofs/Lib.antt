mod Scoping
mod Racing
mod Lent
pub mod Pasts
pub mod Lendings
mod Noted
mod RowSteps
pub mod Stays
pub mod Hosts
mod Homes
