pub mod Telling
pub mod Calling
pub mod Parts
mod CaseDevices
mod CaseRuns
mod Generating
pub mod Branching
pub mod Chaining
