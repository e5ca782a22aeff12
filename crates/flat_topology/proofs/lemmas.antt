-- Lemmas that other crates may cite.
pub mod Distances
pub mod Distinct
pub mod Ratios
pub mod Samples
pub mod Whole
