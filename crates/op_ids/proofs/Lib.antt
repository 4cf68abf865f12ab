pub mod ByteLemmas
pub mod ClockLemmas
pub mod EqualityLemmas
pub mod IdLemmas
pub mod JoinLemmas
pub mod FullLemmas
pub mod RoomLemmas
