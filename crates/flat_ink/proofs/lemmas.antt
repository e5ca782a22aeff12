-- Lemmas that other crates may cite.
pub mod Bounds
pub mod Lines
pub mod Ranges
pub mod Steps
pub mod Tables
pub mod Windows
pub mod Covered
pub mod Brushing
