-- The states of a contact.
pub mod Table
