-- The three demands, and request #106, each over nothing but the contracts of public calls.
pub mod Refusing
pub mod RoundTrip
pub mod Histories
pub mod Hovering
pub mod Whole
pub mod FirstFault
pub mod Padding
