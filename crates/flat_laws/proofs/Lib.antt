pub mod Absent
pub mod Adding
pub mod Bounds
mod Examples
pub mod Hanging
pub mod Insides
pub mod Later
pub mod Layouts
pub mod Lost
pub mod Releasing
pub mod Seen
pub mod Showing
pub mod Sources
pub mod Spent
pub mod Taking
