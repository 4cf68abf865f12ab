pub mod World
pub mod Histories
pub mod Laws
pub mod Counts
pub mod Witness
pub mod Tokens
pub mod Together
