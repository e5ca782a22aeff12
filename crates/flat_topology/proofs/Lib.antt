pub mod Standing
pub mod Few
pub mod FewSessions
pub mod Opacities
pub mod Viewing
pub mod Ordered
pub mod Parents
pub mod Hitting
mod Examples
pub mod Fitting
pub mod lemmas
