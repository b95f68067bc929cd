-- Numbers as bytes.
pub mod Digits
