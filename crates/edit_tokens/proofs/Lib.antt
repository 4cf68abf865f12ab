pub mod PlaceLemmas
pub mod FoundLemmas
pub mod GatherLemmas
pub mod EditLemmas
