pub mod FamilyClosed
pub mod PathLemmas
pub mod ReachLemmas
pub mod SmallHistories
pub mod SmallDrafts
mod SmallViewTrees
pub mod lemmas
