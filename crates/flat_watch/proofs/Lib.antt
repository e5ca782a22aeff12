pub mod Examples
pub mod NewsLemmas
pub mod Runs
