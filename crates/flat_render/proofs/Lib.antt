pub mod Channels
pub mod Places
pub mod Chunks
pub mod Any
pub mod Seen
pub mod lemmas
pub mod Bands
pub mod Runs
pub mod Rendered
pub mod RowsOf
pub mod StripSteps
pub mod SpanSteps
pub mod RowWords
pub mod Choices
pub mod Colours
mod Examples
