pub mod AssertionLaws
pub mod AssertionFacts
pub mod Stated
