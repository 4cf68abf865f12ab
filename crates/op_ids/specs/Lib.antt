pub mod Id
pub mod Clock
pub mod ClockError
pub mod Words
pub mod WordLaws
