mod Times
mod AheadLemmas
pub mod DeclareLemmas
pub mod Naming
pub mod lemmas
