pub mod Losses
pub mod Showing
pub mod lemmas
mod SmallLosses
