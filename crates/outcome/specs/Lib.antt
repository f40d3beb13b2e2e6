pub mod Line
pub mod Reported
pub mod Wrote
pub mod Numbers
