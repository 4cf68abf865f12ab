pub mod RisingLemmas
pub mod TellingLemmas
pub mod NumberLemmas
pub mod SeveralLemmas
pub mod AloneLemmas
