pub mod State
pub mod Stands
pub mod Parts
pub mod Shown
pub mod Answers
pub mod Kinds
pub mod Laws
