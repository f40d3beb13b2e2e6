pub mod Cells
pub mod Asks
pub mod Choices
