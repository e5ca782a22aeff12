pub mod Choices
pub mod Print
