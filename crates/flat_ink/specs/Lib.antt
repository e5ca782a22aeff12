pub mod Areas
pub mod Colours
pub mod Pixels
pub mod Channels
pub mod Inks
pub mod Textures
