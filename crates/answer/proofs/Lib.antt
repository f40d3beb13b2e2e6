pub mod Cutting
pub mod Searching
pub mod Judging
pub mod Writing
pub mod Meant
pub mod NoAnswer
