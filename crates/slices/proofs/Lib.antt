pub mod ListFacts
pub mod ListSteps
