mod SumLemmas
pub mod WriterLemmas
