pub mod Decimals
pub mod Writing
pub mod Lines
pub mod Cases
pub mod Spelling
