pub mod Plans
pub mod Left
pub mod Room
