pub mod All
pub mod Kinds
