-- Numbers of tables.
pub mod Same
