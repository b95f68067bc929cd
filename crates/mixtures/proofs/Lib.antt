pub mod Singly
pub mod Making
pub mod Mixtures
