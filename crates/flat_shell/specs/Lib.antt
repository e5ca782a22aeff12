pub mod Closing
pub mod Live
pub mod Shells
