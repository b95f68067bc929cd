-- Laws of the set of ids that is kept while ignoring, and of opening frames as they are read.
pub mod Reading
pub mod Listed
pub mod Unique
pub mod Ends
