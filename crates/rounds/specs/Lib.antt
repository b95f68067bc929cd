-- Rounds of a run over a bench file.
pub mod Rounds
