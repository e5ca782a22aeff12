pub mod PlayedLemmas
pub mod EarlyLemmas
pub mod BodyLemmas
pub mod HeadLemmas
pub mod AcceptedLemmas
