-- Batches and single calls of one receiver, in any order.
pub mod Singly
pub mod Mixtures
