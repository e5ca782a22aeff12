pub mod Misread
pub mod Reasons
pub mod Refused
pub mod Words
