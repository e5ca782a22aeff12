mod Examples
pub mod Parts
pub mod Wholes
pub mod lemmas
pub mod Sameness
pub mod Packing
