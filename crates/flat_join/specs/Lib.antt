pub mod Distances
pub mod Walking
