pub mod Full
pub mod EditLemmas
pub mod DocumentLemmas
