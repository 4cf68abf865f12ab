pub mod EndedLemmas
pub mod FittingLemmas
pub mod LimitLemmas
pub mod MakingLemmas
pub mod NamingLemmas
pub mod StandingLemmas
pub mod TakingLemmas
