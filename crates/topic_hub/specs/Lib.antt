pub mod Places
pub mod Subscribers
pub mod Topics
pub mod Laws
