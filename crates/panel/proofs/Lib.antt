-- The line of an entry.
mod Laws
