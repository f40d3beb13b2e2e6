pub mod Steps
pub mod Meaning
pub mod Leaving
pub mod Holding
pub mod Sought
pub mod Picked
