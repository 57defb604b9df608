pub mod Swaps
pub mod Lending
pub mod TwoRows
