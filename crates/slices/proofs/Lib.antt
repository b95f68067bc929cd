pub mod Tails
pub mod Laws
pub mod Drafts
