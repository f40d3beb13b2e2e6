pub mod Reading
pub mod Left
pub mod Sought
