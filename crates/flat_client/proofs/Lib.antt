mod Answering
mod Examples
mod Misusing
mod Settling
mod Standing
