mod Examples
pub mod Writing
pub mod LineLemmas
pub mod PlaceLemmas
pub mod SaidLemmas
pub mod AfterLemmas
pub mod LoadLemmas
