pub mod Laws
pub mod Load
pub mod Spelling
pub mod Summary
pub mod Words
