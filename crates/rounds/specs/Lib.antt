pub mod State
pub mod Saturated
