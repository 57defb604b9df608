pub mod HexState
pub mod LinesState
pub mod LossyState
pub mod UpperState
pub mod Utf8State
