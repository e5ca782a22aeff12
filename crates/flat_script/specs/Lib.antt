pub mod Grammar
pub mod Plain
pub mod Answers
pub mod Ahead
