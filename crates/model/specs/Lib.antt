-- What the engine means.
--
-- Syntax, kinds and values.
pub mod Limits
pub mod Lists
pub mod Syntax
pub mod Kinds
pub mod Calendar
pub mod Values
-- What is true: rules, reach, requests, safety, and the outcome that is meant.
pub mod Closure
pub mod Versions
pub mod Hierarchy
pub mod Rules
pub mod Reach
pub mod Requests
pub mod Withdrawals
pub mod Safety
pub mod Safe
pub mod Records
pub mod Meant
-- What is computed, and proved to be that.
pub mod Rounds
pub mod Descendants
pub mod Steps
pub mod Reached
pub mod Judging
pub mod Deciding
-- Bytes.
pub mod Bytes
pub mod Reader
pub mod Layout
pub mod Labels
pub mod Decision
-- Computed, by offsets, and proved to be that.
pub mod Readings
pub mod Forms
pub mod Policies
pub mod Nodes
pub mod Entries
-- What statements speak of, and what is stated of the calendar and of labels. Crate `theorems` has the statements of the rules and the decision.
pub mod Inputs
pub mod Years
pub mod Alike
