pub mod Displays
pub mod Homes
pub mod Readings
pub mod Seats
