pub mod Meaning
pub mod Links
pub mod Accepted
