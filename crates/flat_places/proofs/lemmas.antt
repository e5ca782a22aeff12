-- Lemmas that other crates may cite.
pub mod NameLemmas
pub mod ReadsLemmas
