pub mod Forest
pub mod Judge
pub mod Search
pub mod Walking
pub mod Sweep
pub mod Marking
pub mod Laws
