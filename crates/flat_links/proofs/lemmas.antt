-- Lemmas that other crates may cite.
pub mod PairIdle
pub mod PairSteps
pub mod LinksSteps
pub mod WithView
pub mod DoneEnds
pub mod EndSteps
pub mod ViewportUses
