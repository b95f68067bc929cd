-- The touch writer.
pub mod TouchDraft
pub mod Spelling
pub mod Limits
pub mod Judging
