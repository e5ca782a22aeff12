mod Firsts
mod Examples
mod Clips
pub mod Regions
