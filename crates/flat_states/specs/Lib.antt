pub mod Flags
pub mod Kept
pub mod Logs
pub mod Machines
pub mod Ports
pub mod Presents
pub mod Seen
