pub mod Laws
pub mod Maps
pub mod Exact
pub mod Meaning
pub mod Model
