pub mod EndsOf
pub mod FirstRecord
pub mod Holding
pub mod OneRecord
pub mod Told
