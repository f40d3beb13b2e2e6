pub mod Laws
pub mod Outlines
pub mod Sets
pub mod Marking
pub mod Model
pub mod Ends
pub mod RowLaws
