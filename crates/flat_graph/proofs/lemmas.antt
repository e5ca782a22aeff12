-- Lemmas that other crates may cite.
pub mod DraftNames
pub mod FewerNodes
pub mod NameLemmas
pub mod StandingLaws
