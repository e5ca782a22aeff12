pub mod Tallies
pub mod Stuck
