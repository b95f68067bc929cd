-- The bench file that the program writes.
pub mod Entry
