pub mod Admitting
pub mod Causes
pub mod Guests
pub mod Origins
pub mod OwnHost
pub mod Reading
pub mod Stating
