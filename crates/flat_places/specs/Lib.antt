pub mod Known
pub mod Kinds
pub mod Forms
pub mod Names
pub mod Places
pub mod Slots
pub mod Index
pub mod Reads
