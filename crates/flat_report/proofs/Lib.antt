pub mod Answered
pub mod Determined
pub mod DueLemmas
pub mod Examples
pub mod FewFrames
pub mod ItemLines
pub mod MoreExamples
pub mod Paging
pub mod Piecing
pub mod Reaching
mod ScaledExample
mod SmallHanded
mod SmallProbes
pub mod Texting
pub mod WholeReport
pub mod Written
pub mod WrittenOnce
pub mod lemmas
