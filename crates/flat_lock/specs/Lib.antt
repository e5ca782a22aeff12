pub mod History
pub mod Seats
pub mod Steps
pub mod Rule
pub mod Places
