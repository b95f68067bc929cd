-- The frames of a touch message, counted and carried out.
pub mod Carrying
