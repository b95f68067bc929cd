-- What writers promise whose callers have made room.
pub mod Put
