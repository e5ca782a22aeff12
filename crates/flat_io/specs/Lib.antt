pub mod Counts
pub mod Kept
pub mod Reads
pub mod Told
pub mod Whole
