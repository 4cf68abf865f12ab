pub mod Checked
pub mod Listing
