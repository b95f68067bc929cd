-- What the calls answer of the set of ids that is kept while ignoring.
pub mod Openings
