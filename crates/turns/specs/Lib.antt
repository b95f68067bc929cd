-- Turns of a run over entries.
pub mod Turns
