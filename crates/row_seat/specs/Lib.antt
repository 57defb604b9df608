pub mod Views
pub mod Totals
pub mod Rule
pub mod Laws
pub mod Steps
pub mod Hands
pub mod PlainSeats
pub mod Fronts
