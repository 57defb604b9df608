pub mod AlonePerforms
pub mod Begun
pub mod CatReady
pub mod CatRuns
pub mod CutFrames
pub mod Pieces
pub mod Printing
pub mod Unmade
