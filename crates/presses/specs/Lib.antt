-- Presses on buttons.
pub mod Buttons
pub mod Choosing
pub mod Turns
