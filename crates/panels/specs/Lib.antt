-- A panel, what it takes and what it sends.
pub mod Panel
