pub mod Codes
pub mod Views
pub mod Steps
pub mod Rule
pub mod Ends
