pub mod Builders
pub mod Faults
pub mod Laws
