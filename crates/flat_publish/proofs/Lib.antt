mod Examples
pub mod lemmas
pub mod Adding
pub mod Homes
pub mod Publishing
