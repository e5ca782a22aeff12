pub mod Tiles
pub mod Hiding
pub mod Preparing
pub mod Chosen
