-- Feeding a file entry by entry.
mod Inside
mod Laws
