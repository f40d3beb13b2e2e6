pub mod Tables
pub mod Phrases
pub mod Outlines
pub mod Marks
pub mod Rows
