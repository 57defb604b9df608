pub mod Machine
pub mod Torn
pub mod Legal
pub mod SoFar
pub mod Settled
pub mod Fronts
pub mod Single
pub mod Verdicts
