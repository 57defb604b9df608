pub mod Rows
pub mod Origins
pub mod Runs
