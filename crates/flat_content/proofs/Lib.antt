pub mod Serials
pub mod Soundness
pub mod Refusals
pub mod Sides
pub mod Examples
pub mod lemmas
