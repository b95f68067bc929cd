-- What both ends of the channel keep and judge alike.
pub mod Marks
