pub mod Loops
pub mod Streams
