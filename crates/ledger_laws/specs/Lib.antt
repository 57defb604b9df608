pub mod Written
pub mod Worked
pub mod Broken
pub mod Stands
pub mod Torn
