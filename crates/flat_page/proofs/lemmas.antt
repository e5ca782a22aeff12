-- Lemmas that other crates may cite.
pub mod LastItems
pub mod Merging
pub mod PageLemmas
pub mod Telling
