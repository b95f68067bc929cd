-- Laws of a panel: which numbers a draft refuses with, the contract of what is sent, check by check, and what arrives.
pub mod Drafts
pub mod Sendings
mod Arrivals
