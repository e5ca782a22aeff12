pub mod Damages
pub mod Filming
pub mod Films
pub mod Lines
pub mod Pictures
pub mod Strips
