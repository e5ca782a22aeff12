mod Examples
mod Keeping
mod FaultLemmas
mod Held
