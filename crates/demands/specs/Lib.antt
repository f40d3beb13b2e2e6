-- The three demands, as statements about calls of the engine.
pub mod Lookups
pub mod Names
pub mod Demands
