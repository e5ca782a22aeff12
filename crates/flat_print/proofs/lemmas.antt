-- Lemmas that other crates may cite.
pub mod AgainLemmas
pub mod BodyWordLemmas
pub mod OrderLemmas
pub mod RunLemmas
pub mod TextLemmas
