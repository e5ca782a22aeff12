pub mod Firsts
pub mod Touchable
