-- What a panel's refusals are to leave.
pub mod Refusing
