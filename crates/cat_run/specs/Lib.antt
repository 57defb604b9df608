pub mod Alone
pub mod Printing
pub mod Streams
pub mod Cat
pub mod Ready
