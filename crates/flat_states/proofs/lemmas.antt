-- Lemmas that other crates may cite.
pub mod BeginLoop
pub mod Changes
pub mod Counts
pub mod Entered
pub mod Heard
pub mod Ones
pub mod Opened
pub mod Steps
pub mod ViewSteps
pub mod Begun
pub mod BoardBegins
pub mod DoneSteps
pub mod Lists
