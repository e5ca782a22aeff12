-- Lemmas that other crates may cite.
pub mod Beside
pub mod SeenFrames
pub mod StillStands
