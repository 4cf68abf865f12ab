pub mod AnchorLemmas
pub mod EditLemmas
pub mod FieldLemmas
pub mod PutLemmas
pub mod QuotedLemmas
pub mod ReadLemmas
pub mod SaidLemmas
pub mod SeveralLemmas
