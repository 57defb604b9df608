pub mod Accounts
pub mod Reports
pub mod Calls
pub mod Stopping
pub mod Laws
