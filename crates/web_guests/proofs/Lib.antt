pub mod AdmittingLemmas
pub mod OriginLemmas
pub mod StatingLemmas
