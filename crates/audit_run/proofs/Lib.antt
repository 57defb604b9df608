pub mod Apart
mod Causes
