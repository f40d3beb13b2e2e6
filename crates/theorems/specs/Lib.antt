pub mod Binding
pub mod Theorems
