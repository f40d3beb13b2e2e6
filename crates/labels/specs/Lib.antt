pub mod Hash
pub mod Largest
