pub mod Blanks
pub mod Reasons
pub mod Hidden
pub mod Laws
pub mod Noted
pub mod Text
