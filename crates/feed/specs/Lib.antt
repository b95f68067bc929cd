-- Windows over a lent space.
pub mod Within
