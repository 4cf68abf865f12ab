pub mod PieceLemmas
pub mod CutLemmas
pub mod AdvancedLemmas
pub mod UnrolledLemmas
pub mod LengthLemmas
pub mod TypedLemmas
