pub mod Begun
pub mod ChainLaws
pub mod Ends
pub mod Homes
pub mod Reading
pub mod Ready
pub mod Teed
pub mod Tellings
