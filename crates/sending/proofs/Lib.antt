-- Laws of the panel's sending side: what is refused, that a second suspend or resume changes nothing, and that a contract leaves one outcome.
pub mod Refusing
pub mod Again
pub mod Unique
