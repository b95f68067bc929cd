-- The lines of the touch writer's program.
pub mod Line
