-- One stream of contacts, over what it goes by; its set of ids, over a history; the path of a contact through its records; and what is asked of an instance.
pub mod Stream
pub mod Set
pub mod Path
pub mod Asked
