-- How calls write into lent outputs.
pub mod Writing
