pub mod PatternLaws
pub mod Ranges
