pub mod Flat
pub mod Packed
pub mod Forest
pub mod Building
pub mod Inside
pub mod Stretch
