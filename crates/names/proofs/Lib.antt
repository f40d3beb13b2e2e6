pub mod FormFacts
pub mod ItemFacts
pub mod Buckets
pub mod Seeking
pub mod NameFacts
