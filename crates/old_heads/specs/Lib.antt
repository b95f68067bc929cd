-- Heads as they were before #107.
pub mod OldHeads
pub mod Standing
