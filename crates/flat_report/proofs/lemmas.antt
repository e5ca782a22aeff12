-- Lemmas that other crates may cite.
pub mod Losses
pub mod Named
pub mod Openings
pub mod ProbeSteps
pub mod Reading
pub mod SeenTold
pub mod Sheets
pub mod Tails
pub mod Turns
