-- Many messages in one call.
pub mod Batch
pub mod Cutting
