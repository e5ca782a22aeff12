pub mod Made
pub mod Prepared
pub mod Readings
pub mod Reads
