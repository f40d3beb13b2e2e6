pub mod Table
pub mod Merging
pub mod Listed
