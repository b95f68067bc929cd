-- Records as the fields of a message.
pub mod Spelling
