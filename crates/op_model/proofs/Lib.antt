pub mod QueryLemmas
pub mod RisingLemmas
