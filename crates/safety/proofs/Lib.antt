pub mod WalkLaws
pub mod KnownSteps
pub mod SafeLaws
