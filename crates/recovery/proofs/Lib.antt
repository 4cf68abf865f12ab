pub mod FaultLemmas
pub mod ImageLemmas
