pub mod Laid
pub mod Kin
pub mod Sets
pub mod Members
