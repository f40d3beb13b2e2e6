pub mod Marks
pub mod Growth
pub mod State
