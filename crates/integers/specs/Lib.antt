-- What the five integers of 000, 2.2.2 mean.
pub mod Integer
pub mod Shape
pub mod Answer
pub mod Found
