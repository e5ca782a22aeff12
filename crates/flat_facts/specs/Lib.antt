pub mod Begins
pub mod Clears
pub mod Contents
pub mod Laws
pub mod Lives
pub mod Views
pub mod Pairs
pub mod Told
