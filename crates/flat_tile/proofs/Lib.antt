pub mod ByNumber
pub mod CoveredUp
pub mod Cuts
pub mod Fresh
pub mod Preparing
pub mod ThreePlanes
pub mod Wholes
pub mod lemmas
mod Examples
