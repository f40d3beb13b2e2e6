pub mod Keys
pub mod Records
pub mod Orders
pub mod Merges
pub mod Runs
pub mod Sorting
pub mod Listing
pub mod Model
