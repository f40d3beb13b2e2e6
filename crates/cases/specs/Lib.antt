-- Worked cases on bytes, which the checker computes.
pub mod Calls
pub mod Belt
pub mod Refusals
pub mod Withdrawing
pub mod Inheriting
pub mod StandIns
