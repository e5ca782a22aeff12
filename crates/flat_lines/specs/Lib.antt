pub mod Ends
pub mod EntryLines
pub mod FrameLines
pub mod Names
pub mod PostLines
