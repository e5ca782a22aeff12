pub mod Damaging
pub mod Examples
pub mod Filming
pub mod Printing
pub mod StripLemmas
