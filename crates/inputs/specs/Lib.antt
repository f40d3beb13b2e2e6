pub mod Handed
pub mod Accepts
