-- Lemmas that other crates may cite.
pub mod FormLemmas
pub mod FoundLemmas
pub mod IndexLemmas
pub mod ListLemmas
pub mod ParserLemmas
pub mod StepLemmas
