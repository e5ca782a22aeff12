pub mod Counting
pub mod Reaching
pub mod Examples
