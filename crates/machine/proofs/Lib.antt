-- Laws of the table of contacts, of frames that conform, and of what becomes of frames.
pub mod Table
pub mod Conforms
pub mod Held
pub mod Machine
pub mod Conforming
