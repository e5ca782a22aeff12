pub mod ErrorNumber
pub mod Fixed
pub mod Last
pub mod Number
pub mod Room
pub mod formers
