pub mod Ends
pub mod Covers
mod Examples
