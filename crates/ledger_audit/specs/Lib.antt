pub mod Complete
pub mod Lists
pub mod Marks
pub mod Orders
pub mod Trees
pub mod Worked
