pub mod Answering
mod ForForm
pub mod FramesDone
pub mod Loads
pub mod lemmas
pub mod OneHistory
pub mod OneRun
pub mod PieceByPiece
pub mod Replying
pub mod Reporting
pub mod Runnable
pub mod SmallPromise
pub mod Written
