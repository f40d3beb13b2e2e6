pub mod Putting
pub mod Facts
pub mod Turn
pub mod Saturating
pub mod Ordering
