pub mod Playable
pub mod Versions
pub mod Laws
