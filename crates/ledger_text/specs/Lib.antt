pub mod Reading
pub mod Closing
pub mod Standings
pub mod Tests
