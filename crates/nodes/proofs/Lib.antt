pub mod TreeSteps
pub mod NodeSteps
pub mod TreeLaws
pub mod ReadLaws
pub mod WalkSteps
