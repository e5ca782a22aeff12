pub mod Calls
pub mod Meaning
mod Examples
mod Results
