pub mod Adding
pub mod Decimal
pub mod Hexes
pub mod Printing
pub mod Unique
