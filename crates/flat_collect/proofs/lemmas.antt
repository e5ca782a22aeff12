-- Lemmas that other crates may cite.
pub mod Stands
pub mod Swept
pub mod Verdicts
pub mod Walking
