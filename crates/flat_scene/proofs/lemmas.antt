-- Lemmas that other crates may cite.
pub mod CycleLemmas
pub mod FamilyLeast
pub mod FirstReasons
pub mod Members
pub mod Presented
pub mod Steps
pub mod TakingLemmas
