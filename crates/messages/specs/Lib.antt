-- Messages: their header and the bodies of all but touch.
pub mod Header
pub mod Bodies
