-- The machine: the table of contacts, when a frame conforms, the set that is kept while ignoring, and what frames leave and write.
pub mod Table
pub mod Rules
pub mod Conforms
pub mod Held
pub mod Machine
