pub mod Had
pub mod Kept
pub mod Lost
pub mod Shows
