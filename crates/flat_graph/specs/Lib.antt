pub mod Names
pub mod State
pub mod Reasons
pub mod Stands
pub mod Laws
