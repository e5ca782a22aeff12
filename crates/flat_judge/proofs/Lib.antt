pub mod DisplayLines
pub mod Examples
pub mod Fitting
pub mod LineCuts
pub mod NoTitles
pub mod Partings
pub mod RunSteps
pub mod Seats
pub mod Screens
pub mod ProbePlaces
pub mod WholeRuns
mod Along
mod Beginning
mod Ends
mod Growth
mod LastEntry
mod NextEntries
mod Reported
mod Turning
mod OneMore
mod Pass
mod LossesTold
mod NextWords
pub mod Looking
mod Breaks
mod Shares
mod Seen
mod HintsTold
pub mod HeedingSteps
