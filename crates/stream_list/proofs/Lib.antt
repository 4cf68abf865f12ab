pub mod AtFront
pub mod PackLemmas
pub mod PassingLemmas
pub mod Unfinished
