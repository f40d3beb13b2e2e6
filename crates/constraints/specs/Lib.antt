pub mod Standing
pub mod Told
