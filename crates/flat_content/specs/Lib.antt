pub mod Limits
pub mod Table
pub mod Reasons
pub mod Stands
pub mod Laws
