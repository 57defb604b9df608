pub mod Texts
pub mod Lines
pub mod Audit
pub mod Laws
