pub mod Ends
pub mod Places
pub mod Presents
pub mod Shows
