mod Examples
pub mod Parts
pub mod Tracing
pub mod Giving
pub mod Keeping
pub mod Scopes
pub mod Showing
