-- The entries that are written.
mod Laws
