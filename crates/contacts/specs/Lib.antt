-- Touch contacts in the machine, and what the code answers for a frame of them.
pub mod Touch
pub mod Ruling
