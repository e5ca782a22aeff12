pub mod Identity
pub mod Matrices
pub mod Rectangles
