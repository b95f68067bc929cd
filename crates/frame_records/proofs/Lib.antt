pub mod Laws
pub mod Passes
pub mod Contacts
pub mod Finding
pub mod Unique
pub mod Ends
