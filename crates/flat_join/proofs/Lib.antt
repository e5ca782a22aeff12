pub mod Stating
pub mod Walking
mod Walks
pub mod Finding
pub mod lemmas
