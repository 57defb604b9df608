pub mod Beginning
pub mod Coming
pub mod Printing
