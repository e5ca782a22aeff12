-- Lemmas that other crates may cite.
pub mod Entering
pub mod Following
pub mod Outcomes
pub mod Preparing
pub mod Readying
pub mod Standing
pub mod Tellings
