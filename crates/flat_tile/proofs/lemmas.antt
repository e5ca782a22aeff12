-- Lemmas that other crates may cite.
pub mod Items
pub mod Lists
pub mod Planes
pub mod PreparedLists
pub mod Rows
