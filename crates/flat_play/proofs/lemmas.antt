-- Lemmas that other crates may cite.
pub mod Begun
pub mod Beside
pub mod DisplaySteps
pub mod FewViews
pub mod FramesShown
pub mod Growing
pub mod Joining
pub mod Places
pub mod PlaySteps
pub mod Readers
pub mod Seen
pub mod Slots
pub mod Starting
pub mod Steps
pub mod Storing
pub mod Unread
