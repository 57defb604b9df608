pub mod Poured
pub mod Texts
