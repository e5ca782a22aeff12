pub mod LiveSteps
pub mod LowDrafts
pub mod LowTrees
pub mod Reached
pub mod ReachedSteps
pub mod ShownOnce
pub mod lemmas
