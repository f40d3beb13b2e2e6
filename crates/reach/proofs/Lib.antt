pub mod Joining
pub mod Linking
pub mod Found
pub mod Meaning
pub mod Counting
pub mod Kept
