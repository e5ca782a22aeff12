mod Beginning
mod Editing
mod Ending
pub mod lemmas
