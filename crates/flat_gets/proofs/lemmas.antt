-- Lemmas that other crates may cite.
pub mod GetPosts
pub mod WatchingSteps
pub mod GetHistory
