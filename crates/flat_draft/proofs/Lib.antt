pub mod Applying
pub mod Examples
pub mod Laying
pub mod Shows
pub mod Watching
pub mod lemmas
