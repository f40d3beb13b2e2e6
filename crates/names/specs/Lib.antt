pub mod Names
pub mod Seeking
