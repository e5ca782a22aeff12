pub mod AllEnds
pub mod Clears
pub mod SessionLinks
pub mod Hearing
pub mod Noted
pub mod Usage
pub mod Viewports
pub mod Views
