pub mod Right
pub mod Stood
pub mod Hanging
pub mod Teardowns
