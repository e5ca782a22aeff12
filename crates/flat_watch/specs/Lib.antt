pub mod HangingGets
pub mod Laws
pub mod Told
