pub mod Fewest
pub mod ByteOne
pub mod Laws
pub mod Signed
pub mod Table
pub mod ProvedSet
pub mod Unique
