pub mod Faults
pub mod HeadLemmas
pub mod LiveLemmas
pub mod SlotReads
pub mod SlotWrites
pub mod SpellingLemmas
pub mod WrittenLemmas
