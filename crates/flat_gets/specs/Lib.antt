pub mod Dues
pub mod Gets
pub mod Listed
pub mod Pairs
pub mod Watchers
