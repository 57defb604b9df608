pub mod Closing
pub mod PartedRows
pub mod Visiting
pub mod Ended
pub mod Begins
pub mod Returned
pub mod DevicesBack
